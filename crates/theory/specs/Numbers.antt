-- Whole numbers, tests and lists: what the kit lacks.
--
-- Names used outside this group, file by file.

-- a test by its denial, the bounds of a number, tests of every element of a list, from index i on
--   failed           where t is b and `not t` is true, b is false
--   passed           where t is b and `not t` is false, b is true
--   same_test        two tests, each of which passes where the other does, are equal
--   from_one         where the tests of 1 ≤ k and of k ≤ most pass, 1 ≤ k and k ≤ most
--   all_more         where element i passes, all from i on pass exactly if all from i + 1 on do
--   all_fails        where element i fails, not all from i on pass
--   all_done         from the end of the list on, all pass
--   all_from_more    where element i passes the test of index i, all from i on pass theirs exactly if all from i + 1 on do
--   all_from_fails   where element i fails the test of index i, not all from i on pass theirs
--   all_from_done    from the end of the list on, all pass the tests of their indices
--   all_each         where all pass, each element passes
--   all_from_each    where all pass the tests of their indices, counted from k, element i passes the test of index k + i
pub mod Tests
-- lists by their cells: parts of one width joined, cells at the front of a buffer, what holds of each element
--   joined_length     parts of w cells each, joined, have w cells for each part
--   joined_at_lem     of parts of w cells each, joined, cell t * w + c is cell c of part t, where c < w
--   joined_append     lists of lists, one behind the other, joined: the first joined, then the second joined
--   at_front_cells    the front of `at_front cells buffer` is the cells
--   at_front_before   a cell of `at_front cells buffer` before the end of the cells is theirs
--   at_front_beyond   a cell of `at_front cells buffer` from the end of the cells on is the buffer's
--   at_front_length   `at_front cells buffer` is as long as the buffer, where the cells are no longer than it
--   at_front_set      setting the cell behind the front adds it to the front, where there is one
--   at_front_sets     setting the cells behind the front adds them to the front, where there are so many
--   at_front_same     adding to the front what stands behind it already changes nothing
--   Each              P holds of each element of a list
--   each_append       where P holds of each element of two lists, it does of the two, one behind the other
--   each_at           where P holds of each element, it holds of element t
--   all_from_lem      where each cell c passes the test of index i + c, `all_from` from index i says so
pub mod Joined
-- integers as differences `D p n` of two naturals, so that `omega` settles what is linear
--   as_D     an integer is the difference of its two parts: z is `D (up z) (down z)`
--   linear   the rules that turn a linear fact over such differences into one over naturals
pub mod Bridge
-- laws of the integers: the order, and equality as a test
--   ≤ℤ_trans   the order is transitive
--   eqZ→eq     integers that pass the test `eq_z` are equal
--   eq→eq_z    equal integers pass the test `eq_z`
pub mod Integers
-- floor halving: `half d` is the greatest h with 2·h ≤ d
--   floor_half       2·h ≤ d ≤ 2·h + 1, where h is `half d`
--   even_half        twice the half of an even number is the number
--   even_of_double   twice a number is even
--   half_even        the half of twice h is h
--   half_low         a number lo that is at most e and at most -P is at most the half of e - s, where s ≤ P
--   half_high        a number hi that is at least e and at least N is at least the half of e - s, where -N ≤ s
--   min_max          a and b are at least `min_z a b` and at most `max_z a b`
--   half_in_range    where -N ≤ s ≤ P, the half of e - s is from `min_z k (-P)` to `max_z k N` if e is
pub mod Half
-- the size of an integer, `nat_abs`, and the quotient and remainder by 2, towards 0
--   abs_le      where -n ≤ z ≤ n, the size of z is at most n
--   le_abs      where the size of z is at most n, -n ≤ z ≤ n
--   abs_add     the size of a sum is at most the sum of the sizes
--   abs_sub     the size of a difference is at most the sum of the sizes
--   fits_abs    a number of size below 2 ^ hbits w fits the signed width w
--   abs_half    the size of the quotient by 2 is half the size, rounded down
--   quot_even   where d is even, its quotient by 2 is `half d`
--   quot_odd    where d is odd, the quotient of d - 1 by 2 is `half d`
--   rem_even    where the bits of d's remainder by 2 are zero, d is even
--   rem_odd     where the bits of d's remainder by 2 are not zero, d is odd
--   abs_mul     the size of a product is the product of the sizes
pub mod Magnitude
-- signed numbers by their bits, as code holds and compares them
--   same_bits   numbers that fit a width and have the same bits are equal
--   test_bits   of numbers that fit a width, the test whether their bits are equal is the test whether they are
--   read        a number that fits 32 bits is what is read from its bits
--   widened     a number that fits 32 bits is what is read from its bits, put into 64 and read again
pub mod Bits
-- a letter's sum, one coefficient after another, and its size
--   Small             each coefficient of the list is at most B in size
--   small_take        of a list of coefficients at most B in size, the first i are so too
--   small_get_d       of a list of coefficients at most B in size, coefficient i is so too
--   positives_small   of such a list the sum of the positive coefficients is at most B times its length
--   negatives_small   of such a list the sum of the negative coefficients, without sign, is at most B times its length
--   sum_at_small      of such a list, at most n long, the sum of any letter is at most B * n in size
--   sum_without       for a letter below 2 ^ i, the sum over the first i + 1 coefficients is that over the first i
--   sum_with          for such a letter with digit i besides, it is that sum and coefficient i
pub mod Sums
-- the pigeonhole law
--   pigeonhole   k numbers below N, no two of them equal, are at most N
pub mod Pigeonhole
