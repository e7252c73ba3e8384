mod FirstSize
mod GivenSizes
mod ReadBack
mod Zeros
