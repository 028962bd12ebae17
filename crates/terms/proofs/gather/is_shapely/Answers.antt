-- `terms::gather::is_shapely` meets its contract. Assumes nothing.
use mathlib.Core.Path.{refl}
use Rattle.terms.specs.Gathered.{shapely_at}
use Rattle.terms.proofs.HeadCodes.{other_shape}
use Rattle.terms.proofs.gather.is_shapely.Goals as goal

pub returns-in-Plus : goal.returns-in-Plus
unfolding shapely_at
returns-in-Plus c = rw c.in-Plus.is refl

pub returns-in-Minus : goal.returns-in-Minus
unfolding shapely_at
returns-in-Minus c = rw c.in-Minus.is refl

pub returns-in-Times : goal.returns-in-Times
unfolding shapely_at
returns-in-Times c = rw c.in-Times.is refl

pub returns-in_default : goal.returns-in_default
returns-in_default c = other_shape c.args.head c.args.count c.args.numeral c.in_default.not-Plus c.in_default.not-Minus c.in_default.not-Times
