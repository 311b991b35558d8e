mod Accepting
mod Making
