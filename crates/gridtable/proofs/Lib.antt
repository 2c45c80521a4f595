mod Cells
mod Squares
