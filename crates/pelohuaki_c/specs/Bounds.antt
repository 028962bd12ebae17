-- What an import tells of the names.
use Rattle.std.specs.Prelude.{ℕ, ◌*◌, List, replicate, Ok, Err, Result}
use Rattle.scope.specs.declared.Refusal.{Refusal}
use Rattle.scope.specs.Sizes.{most_variables}
use Rattle.importing.specs.declared.answer.Import.{Import}

-- their bounds, and zeros where the text was refused
abbrev pub bounds_told : Result Import Refusal → List ℕ
bounds_told (Ok i) = i.names
bounds_told (Err r) = replicate (2 * most_variables) 0
