mod Takes
mod Numbered
mod Orders
mod Lists
mod FewBytes
