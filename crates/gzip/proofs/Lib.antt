-- Lemmas on what comes behind a member, and that a file is one thing alone. The functions of gzip cite them.
mod OneOutcome
mod Onwards
mod BodyTexts
