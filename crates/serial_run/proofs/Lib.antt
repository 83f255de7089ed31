mod Blind
mod Coming
mod Ending
mod Requests
mod Returning
mod Spawning
mod Standing
mod Turning
