use Rattle.std.proofs.Common.{◌≡◌, ◌≤◌}
use Rattle.graph.specs.Numbers.{eventuality}
use Rattle.graph.specs.Sets.{set_of}
use Rattle.walk.specs.Outlines.{outlined}
use Rattle.walk.specs.Walk.{is_marked}
use Rattle.walk.proofs.outline.Outline.marked.Given as goal

abbrev pub invariant-loop-k : goal.invariant-loop-k
invariant-loop-k l =
    record {
      small : l.number ≤ l.k;
      number : l.number ≡ eventuality (outlined l.self) l.k;
      lines : l.lines ≡ set_of l.k (is_marked (outlined l.self) l.marks);
    }
