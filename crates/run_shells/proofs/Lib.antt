mod LastBracket
mod Folders
mod Answered
mod Found
