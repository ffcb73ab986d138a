-- The loop invariant of `all`: no face of a region before is absent.
use Rattle.std.proofs.Common.{◌≡◌, ◌+◌, ◌-◌}
use Rattle.std.specs.List.{range_with_len}
use Rattle.checking.specs.Checking.{all_named}
use Rattle.checking.specs.Marks.{marked}
use Rattle.checking.proofs.named.Named.all.Given as goal

abbrev pub invariant-loop-region : goal.invariant-loop-region
invariant-loop-region l =
    all_named (marked l.self.flags) (range_with_len l.region (l.regions + 1 - l.region)) (range_with_len 1 l.faces)
    ≡ all_named (marked l.self.flags) (range_with_len 1 l.regions) (range_with_len 1 l.faces)
