-- What is told of an answer that may refuse: of a value what it tells, else the refusal.
use Rattle.figures.proofs.Refused.{refused_leads}
use Rattle.figures.proofs.ResultRefusalTold.told.Goals as goal

pub returns-in-Err : goal.returns-in-Err
returns-in-Err g c =
    let few = g.met.T.Told.few in
    rw (c.in-Err.is, c.from-number.ensures, c.number.ensures) (refused_leads g.T.Told.count _ c.in-Err.refusal.place few.0 few.1)
