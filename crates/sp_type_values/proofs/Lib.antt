mod Steps
mod Numbers
