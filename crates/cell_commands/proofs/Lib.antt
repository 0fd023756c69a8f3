mod AnyCall
mod Begun
mod FirstHeld
mod Giving
mod Making
mod Refusing
mod Revisions
