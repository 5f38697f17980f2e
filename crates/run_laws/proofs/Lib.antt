mod Serving
mod Splitting
mod Within
