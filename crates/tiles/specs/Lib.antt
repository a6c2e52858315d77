-- Even rows and their lags, the turns that solve one tile, and how far the tiles have come.
pub mod Even
pub mod Turns
pub mod Stages
pub mod Tile
