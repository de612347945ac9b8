mod Lines
mod Rows
mod Said
