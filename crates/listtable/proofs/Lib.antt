mod Places
mod Lists
