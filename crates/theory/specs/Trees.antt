-- Questions as trees, apart from any reader: their limits and held values, the bytes that are theirs, and what they mean.
--
-- Names used outside this group, file by file.

-- the limits of a tree, part by part, and its held value, node by node
--   tree_limits   a tree is within the limits exactly if it keeps each of them
--   Fits          in a part whose root is at a depth, no atom is too deep, has other than n coefficients or a number beyond its limit
--   fits_tree     a part that fits at a depth is no deeper than is left, and each of its atoms fits
--   leaf_of       the atom of a node that is one
--   Narrow        each atom has at most six coefficients
--   held_more     a node noted in a held value gives the held value of one node more
pub mod Limits
-- the bytes of a tree within the limits are read as its held value
pub mod Read
-- accepted bytes are the bytes of a tree within the limits
--   question_read           the bytes of a question are accepted, and read as its tree's held value
--   accepted_tree           accepted bytes are those of a question
--   accepted_iff_question   bytes are accepted exactly if they are those of a question
pub mod Parsed
-- what a tree's held value says of naturals
--   tree_means   naturals satisfy the held value of a tree within the limits exactly if the tree is true for them
pub mod Means
-- held values that are written
--   written_question   a held value of its sizes that is written is that of a tree within the limits, and its bytes are the tree's
--   held_written       the held value of a tree within the limits is written, as the bytes of the tree
pub mod Written
