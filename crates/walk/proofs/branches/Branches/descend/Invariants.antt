use Rattle.std.proofs.Common.{◌≡◌, ◌+◌, ◌^◌, ◌≤◌, ◌++◌}
use Rattle.arrayvec.specs.ArrayVec.{array_vec_len}
use Rattle.graph.specs.Numbers.{choice_of}
use Rattle.walk.specs.Outlines.{outlined}
use Rattle.walk.specs.Walk.{walk}
use Rattle.walk.specs.Remain.{ends, work}
use Rattle.walk.proofs.branches.Branches.descend.Given as goal

abbrev pub invariant-loop-k : goal.invariant-loop-k
invariant-loop-k l =
    record {
      within : l.k ≤ l.self.outline.now.len;
      room : array_vec_len l.self.stack + choice_of (outlined l.self.outline.now) l.k ≤ 16;
      outline : l.self.outline.now ≡ l.initial.self.outline.now;
      node : l.self.node ≡ l.initial.self.node;
      list :
          walk (outlined l.self.outline.now) l.k l.found ++ ends l.self
          ≡ walk (outlined l.initial.self.outline.now) l.initial.k l.initial.found ++ ends l.initial.self;
      work : 2 ^ l.k + work l.self ≤ 2 ^ l.initial.k + work l.initial.self;
    }
