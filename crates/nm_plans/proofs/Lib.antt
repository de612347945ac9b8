mod ByImage
mod GoesOn
mod OneMore
mod Unions
