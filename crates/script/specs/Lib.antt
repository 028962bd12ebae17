-- The words of the contracts: the first parts of a list and its command, a script as the code keeps it, what a command changes, and the fault of a script.
pub mod Parts
pub mod Commands
pub mod Kept
pub mod Declarations
pub mod Changes
pub mod Faults
-- the commands one after the other
pub mod Walking
