mod CommentLines
mod Readings
mod TwoFiles
