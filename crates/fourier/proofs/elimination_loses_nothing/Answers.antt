-- The theorems.
use Rattle.fourier.specs.Search.{Made}
use Rattle.fourier.proofs.Columns.{column_keeps}
use Rattle.fourier.proofs.Drops.{drop_keeps}
use Rattle.fourier.proofs.Runs.{run_found, run_nothing, run_nothing_is_none, run_found_refutes, run_found_passed, run_stops, stops_run}
use Rattle.fourier.proofs.Sources.{all_made}
use Rattle.fourier.proofs.elimination_loses_nothing.Goals as goal

pub returns : goal.returns
returns g c = record {
  column = column_keeps;
  drop = drop_keeps;
  same = λ at dead live join judged most crowd j n rows. (run_found at dead live join judged most crowd j n rows, run_nothing at dead live join judged most crowd j n rows);
  nothing = λ at dead live join judged most crowd j n rows sane. run_nothing_is_none at dead live join judged most crowd j (Made at join rows) sane n rows (all_made at join rows);
  found = λ at dead live join judged most crowd j n rows sane r e.
      let f = run_found_refutes at dead live join judged most crowd j (Made at join rows) sane n rows (all_made at join rows) r e in
      (f.0, f.1, run_found_passed at dead live join judged most crowd j n rows r e, f.2);
  stops = λ at dead live join judged most crowd j n rows f. (run_stops at dead live join judged most crowd j n rows f, stops_run at dead live join judged most crowd n rows f);
}
