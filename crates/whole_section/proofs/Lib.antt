-- Laws of the section that a list is and of the places of its steps, which whoever goes over them needs.
pub mod Lists
pub mod Sections
pub mod Places
