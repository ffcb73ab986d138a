-- The proof of `none`: what the search leaves.
use Rattle.checking.specs.Marks.{places}
use Rattle.checking.proofs.Marking.{marks_none}
use Rattle.checking.proofs.named.Named.none.Goals as goal

pub returns : goal.returns
returns c = marks_none places places
