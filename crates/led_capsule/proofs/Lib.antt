mod Rows
mod Numbers
