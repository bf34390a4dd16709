mod Bodies
mod CountLaws
mod Pairs
