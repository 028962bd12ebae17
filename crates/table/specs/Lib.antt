-- The table as it is written: the rows that are all there, a row cell by cell, and the table row by row.
pub mod Front
pub mod Tabling
pub mod Row
pub mod Table
