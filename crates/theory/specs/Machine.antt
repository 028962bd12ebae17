-- The numbering of any machine, by first words, and its verdicts.
--
-- Names used outside this group, file by file.

-- a machine whose `same` tests equality
--   Lawful             `same` is true exactly of equal states
--   same_state_sound   states of a question of which `same_state` is true are equal
--   same_state_refl    `same_state` is true of a state and itself
--   machine_lawful     a question's machine is lawful
pub mod Lawful
-- what is numbered stays numbered
--   prefix_length        rows that are the first of others are at most as many
--   numbered_prefix_le   the rows after f expansions are the first of those after g, where f ≤ g
--   numbered_stays_le    where the rows after r expansions are at most r, more expansions add none
pub mod Prefix
-- what holds of the rows at each moment of the numbering
--   Stepped           r, as row t, is a step by one of the machine's letters from a row before t
--   Rooted            row 0 is the start's, every other row is a step, the steps go up, and the states differ
--   HasRow            a row that has the state s
--   numbered_rooted   the rows of a lawful machine, after any number of expansions, are rooted
pub mod Table
-- the word of a row of rooted rows
--   word_start       the word of row 0 is empty
--   word_row         the word of another row is that of the row it was numbered from, with its letter more
--   after_word       the word of a row leads to its state
--   word_over        the word of a row is over the machine's letters
--   word_length      the word of row t has at most t letters
--   words_increase   the word of a row comes before that of every later row
pub mod Firsts
-- the number of a state
--   HasNumber     the number of the state s is that of a row, and the row has s
--   number_is     in rooted rows the number of the state of row t is t
--   number_step   the state that a letter leads to from an expanded row has a number
--   number_word   where every row is expanded, the state that any word leads to has a number
pub mod NumberOf
-- what the verdict over r rows says: found, never and no room
--   NoneOf           none of the first n rows accepts
--   Accepted         the word leads from the start to a state that accepts
--   is_found         what gives the verdict found w: row w is there and below r, it accepts, and no row before it does
--   verdict_by_lem   a verdict is the one given by what holds of the rows
--   Found            row w is the smallest that accepts, and is below r; its word is the first of all that are accepted
--   found_iff        the verdict of a lawful machine is found w exactly if `Found` holds of w
--   never_iff        it is never exactly if the rows are at most r, have every state that a word leads to, and none accepts
--   no_room_iff      it is no room exactly if the rows are more than r and none of the first r accepts
pub mod Verdicts
-- the reachable states, apart from any numbering
--   states_of       the states of the rows
--   AtMost          the reachable states are at most r: among some r states or fewer is the one that each word leads to
--   rows_each       where the rows after r expansions are at most r, every word leads to the state of one of them
--   rows_few        where the reachable states are at most r, so are the rows after any number of expansions
--   room_iff        the rows after r expansions are at most r exactly if the reachable states are
--   never_means     the verdict over r rows is never exactly if the reachable states are at most r and no word is accepted
--   no_room_means   it is no room exactly if the reachable states are more than r and none of the first r rows accepts
pub mod Reachable
-- states listed by the first words that lead to them, with none left out: the rows are, and there is one such list
pub mod FirstWords
-- the numbering in the middle of a row: row i is being expanded, and its letters below a are tried
--   partial          the rows at that moment
--   target           the state that letter a leads to from row i of the rows l
--   new_row          the row of that state, numbered from row i by letter a
--   New              no row has the state that letter a leads to, at that moment
--   rows_grown       the rows at that moment, and the new row behind them
--   partial_zero     before its first letter they are the rows after i expansions
--   partial_all      after its last letter they are the rows after i + 1 expansions, where there is a row i
--   partial_longer   they are no fewer than the rows after i expansions
--   grown_length     with the new row they are one more
--   grown_none       with the new row none of them accepts, where none did before and the new state does not
--   partial_old      a letter that leads to a state that has a row adds no row
--   partial_new      a letter that leads to a new state adds its row
--   repeated_old     a letter that leads where an earlier letter of the row does leads to a state that has a row
--   found_row        among the rows after r > i expansions the new row stands right behind those of that moment
--   found_end        where it is the first that accepts and its number is below r, the verdict over r rows is found there
--   found_counted    the rows counted are then `rows_grown`
--   no_room_more     where a state is new and there are r rows already, the rows after r expansions are more than r
--   no_room_taken    the first r of these are the rows there are already
--   no_room_end      where none of them accepts, the verdict over r rows is no room
--   start_rows       after no expansion there is the row of the start alone
--   start_none       where the start does not accept, no row does then
--   start_found      where the start accepts, the verdict over one row or more is found 0
--   start_counted    the row of the start alone is counted then
--   no_rows          over no rows the verdict is no room
--   no_rows_more     after no expansion there is more than no row
--   all_rows         where the rows after i expansions are at most i, they are those after any r ≥ i expansions
--   all_fit          these are then at most r
--   never_end        where none of them accepts, the verdict over r rows is never
pub mod Exploring
-- two machines that do the same under a map h of states are numbered alike
--   Simulates       m' does at h s what m does at s, for every s that is good; the start is, and steps keep it
--   rows_map        the rows with h at each state
--   AllGood         the state of every row is good
--   good_at         the state of row t is good, where those of all rows are
--   states_map      what g makes of the states of the mapped rows is what it makes of h at each state
--   paths_map       what g makes of where rows were numbered from is the same of the mapped rows
--   row_maps        row t of the mapped rows is row t, with h at its state
--   numbered_maps   the rows of m' after any number of expansions are those of m, mapped
--   partial_good    in the middle of a row too the states of all rows of m are good
--   same_length     both machines have equally many rows
--   same_verdict    both have the same verdict
--   same_counted    the rows of m' that are counted are those of m, mapped
--   same_table      both have the same table
pub mod Simulation
