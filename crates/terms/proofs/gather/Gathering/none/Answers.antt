-- `terms::gather::Gathering::none` meets its contract. Assumes nothing.
use Rattle.terms.proofs.Gatherings.{none_fits, none_gathers}
use Rattle.terms.proofs.gather.Gathering.none.Goals as goal

pub returns : goal.returns
returns c =
    record { fits = none_fits; gathers = none_gathers }
