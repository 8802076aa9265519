mod Words
mod Serving
mod Programs
