-- The wire: one step of reading and of writing; both ways round; where each is refused.
--
-- Names used outside this group, file by file.

-- checks in their order, and work that goes on step by step
--   and_first          where `a && b` passes, a does
--   and_second         where `a && b` passes, b does
--   and_both           where a and b pass, `a && b` does
--   was_asked          where `not a || b` and a pass, b does
--   Passed             every check of the list is passed
--   none_passed        where checks give no refusal, every one is passed
--   none_iff_passed    checks give no refusal exactly if every one is passed
--   failing_at         where the checks before a check are passed and it fails, the refusal is by its number and its place
--   FirstFailing       a check fails, those before it are passed, and the refusal r is by its number and its place
--   some_iff_failing   checks give the refusal r exactly if it is that of the first that fails
--   passed_append      behind checks that are passed, those that follow decide
--   EveryRule        P holds of the number of every check
--   failing_numbered   and so of that of the first that fails
--   onward_stopped     work that was stopped stays so, however many steps are left
--   onward_ended       work that has ended stays so, however many steps are left
--   onward_going       work that goes on takes one step, and goes on from there with one step less
pub mod Checks
-- an atom's numbers, in field order
--   FitTo                 the first j coefficients are within their limit, and the next one, where there is one, is not
--   coefficient_refused   where that is one of them, it is refused by 12, at its place
--   constant_left         where that is none of them, the check of the constant, at its place, is left
--   row_beyond            where all have one place and a coefficient is beyond its limit, the refusal is 12 there
--   row_within            where all have one place and no coefficient is, the check of the constant is left
--   fields_numbered       where P holds of 12 and 13, it holds of the number of every check of an atom's numbers
pub mod Fields
-- work that goes on until it has ended, and two works in lockstep
--   kept_onward   what holds at first, is kept by every step and gives `Final` at the last, gives it where the work ends
pub mod Lockstep
-- bytes and numbers, each as the other
--   Octets           every number of the list is below 256
--   octets_append    two lists of bytes, one behind the other, are bytes
--   number_in        number j of `numbers_at count` is that 4j bytes behind the place
--   numbers_length   `numbers_at count` has count numbers
pub mod Octets
-- what is seen at a place where a record's bytes stand; nodes, their kinds and their codes
--   record_length       `length_at` the place is the length of the body, where that is below 65,536
--   record_kind         `kind_at` the place is the record's kind, where that is below 65,536
--   record_body         the body stands 4 bytes behind the place
--   header_there_lem    the test `header_there` passes at the place
--   body_there_lem      the test `body_there` passes at the place, where the body is shorter than 65,536
--   there_header        where `header_there` passes, there are 4 bytes from the place on
--   there_body          where `body_there` passes, there are 4 bytes from the place on and as many more as `length_at` says
--   body_length_lem     the body of an atom has 4 bytes for each coefficient, and 4 for the constant
--   body_coefficients   where an atom's body stands, its coefficients are read, if they fit 32 bits
--   body_constant       and behind them its constant is, if it fits 32 bits
--   node_of_kind_lem    the node of a node's kind is the node
--   node_of_code        the node of a node's code is the node
--   kind_of_node        the kind of the node of a kind is that kind, where it is one of a node in use
--   kind_of_code        the kind of the atom of a code: an equation for 1, else an at most
--   code_of_node        the code of the node of a code is that code, where it is one of a node in use
--   kind_small          the kind of a node is below 65,536
pub mod Records
-- held questions: their sizes, what is unused and zero, where two agree
--   Sized   the codes, coefficients and constants are 64, 48 and 8
pub mod Held
-- a node noted in a held question
--   kinds_append   the kinds of the atoms of two lists of nodes, one behind the other, are the first's, then the second's
pub mod Noting
-- the shape of a formula as far as it is known
pub mod Shapes
-- one step of reading, by what its checks say
--   eq→eqb         equal naturals pass the test `eqb`
--   HeadThere      a head stands at the place and passes its checks
--   NodeThere      a node stands where reading stands and passes its checks, as a part due at this depth
--   EndThere       an end record stands at the place and passes its checks
--   NodeStep       a part is due, its node is there, and r is reading after it
--   EndStep        no part is due, the end is there, and e is the question read and the place after it
--   record_ended   where no part is due and the end is there, a step of reading ends
--   going_record   a step of reading that goes on is a `NodeStep`
--   ended_record   a step of reading that ends is an `EndStep`
pub mod ReadingSteps
-- one step of writing, by what its checks say
--   head_written_lem   where n is within its limit, writing goes on from the head's bytes
--   part_ended         where no part is due, a step of writing ends
pub mod WritingSteps
-- what a reading has noted so far
--   variables_range   where `variables_fit n` passes, n is from 1 to 6
--   Sound             sizes and limits hold, what is unused is zero, and the atoms are as many as counted and within their limits
--   sound_head        what is noted after the head is sound
--   sound_step        what is noted after a node is sound, where it was before
pub mod Sound
-- where reading and writing stand at the same node
pub mod Meeting
-- reading and writing whole: the head, the walk, the end
--   ReadWhole        the head stands at the place and passes its checks, and the walk from there ends with e
--   AcceptedWhole    reading from 0 is whole, no byte is left after it, and its question is the one that is held
--   accepted_whole   accepted bytes are read whole
pub mod Wholes
-- a question that was written is read back
--   written_numbers_fit   the numbers of an atom that pass `numbers_fit` fit 32 bits
--   read_written          the bytes of a written question of its sizes are accepted and read as that question
--   record_octets         the bytes of a record are bytes, where those of its body are
--   body_octets           the body of a node, an atom's numbers or none, is bytes
--   written_octets        what is written is bytes
pub mod ReadWritten
-- bytes that are accepted are written back
--   there_bytes        the bytes up to the end of a record that is there are those before it, then the record's by its kind and body
--   there_body_bytes   the body of a node that is there is the body of the numbers that are read from it
--   one_off            the front byte of a list that has one is byte 0
--   WrittenBack        the question is written as the bytes b, and it is sized and sound
--   written_read       accepted bytes are what the question that is read from them is written as
pub mod WrittenRead
-- what holds of every held question that was read
--   WithinLimits         it has its sizes, n is from 1 to 6, its atoms are from 1 to 8, and their numbers are within their limits
--   accepted_within      the question of accepted bytes is within the limits
--   accepted_variables   the n of a question that was accepted passes `variables_fit`
pub mod Accepted
-- where reading stops
--   RecordReached    reading from the place comes to s, past the head and any nodes
--   first            it comes to what is after the head, where that is there
--   later            it comes to what is after a node more
--   reached_sound    what is noted by then is sound
--   reached_onward   reading from the place is reading on from there, with one step less for each node
--   StoppedAt        at the head, at a node reached or at the end reached, r is the refusal of the first check that fails
--   at_head          the first check that fails is one of the head's
--   at_node          the first check that fails is one of a node's that was reached and is due
--   at_end           the first check that fails is one of the end's, which was reached
--   stopped_iff      reading from the place is stopped by r exactly if `StoppedAt` holds
--   never_going      reading does not stay unfinished
--   LeftBytes        the end was read, bytes are left, and r is refusal 6 at the first of them
pub mod Stopped
-- where writing is refused
--   RefusedAt             at the head, at a node reached or at what is left over, r is the refusal of the first check that fails
--   written_stopped_iff   writing is stopped by r exactly if `RefusedAt` holds
--   never_half_written    writing does not stay unfinished
pub mod WritingStopped
-- which number is refused
--   StoppedByNumber         reading comes to an atom, and r names the first of its numbers beyond its limit, at that number's first byte
--   number_stopped_iff      reading from the place is stopped by r with a number of 12 or more exactly if `StoppedByNumber` holds
--   StoppedByVariables      the head is there, its n is beyond its limit, and r is refusal 4 at the place
--   variables_stopped_iff   reading from the place is stopped by r with the number 4 exactly if `StoppedByVariables` holds
--   RefusedByNumber         writing comes to an atom, and r names the first of its numbers beyond its limit, at its node
--   number_refused_iff      writing is refused by r with a number of 12 or more exactly if `RefusedByNumber` holds
--   variables_refused_iff   writing is refused by r with the number 4 exactly if n is beyond its limit and r is refusal 4 at 0
pub mod WhichNumber
-- the answer of reading, case by case
--   ended_held       where reading from 0 ends and no byte is left, the bytes are accepted as the question read
--   refused_iff      bytes are refused by r exactly if reading from 0 is stopped by r or r is of bytes left
--   atom_count_lem   `atom_count` is the number of atoms among the nodes
pub mod Answers
-- writing into a buffer
--   written_short   what is written has at most `most_bytes` bytes
--   wrote_back      what is written stands at the front and is read back as the question; the rest and the length are unchanged
--   wrote_refused   a refusal leaves the buffer as it was
pub mod Buffers
