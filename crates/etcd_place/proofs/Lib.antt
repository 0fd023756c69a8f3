mod Below
mod Parts
mod Ports
