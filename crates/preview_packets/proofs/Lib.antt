-- Why encoding a preview keeps its contract.
mod Packets
