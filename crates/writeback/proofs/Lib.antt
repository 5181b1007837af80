mod Ends
mod Pages
mod Paying
mod Trimming
mod Zeros
