mod Keeping
mod Results
mod Carrying
mod Refusing
mod Jobs
mod Published
