-- The segmentation plan of a transport block (TS 38.212, 5.2.2).
use Rattle.std.specs.Prelude.{ℕ, Result, Ok, [], ◌∷◌}
use Rattle.nr_crcattach.specs.Attachment.{attached_length}
use Rattle.nr_graphpick.specs.{Graph.pick_said, declared.Graph.Graph}
use Rattle.nr_refusal.specs.Refusal.{◌>>=◌, with_fault}
use Rattle.nr_segment.specs.Plan.{Numbers, plan_of}
use Rattle.nr_blockdesk.specs.Link.{err_unless, is_size}
use Rattle.nr_transmission.specs.declared.fault.DeskFault.TheVariants as desk
use Rattle.nr_shifttable.specs.Listed.{graph_number}
use Rattle.nr_calls.specs.declared.fault.Fault.{Fault}
use Rattle.nr_calls.specs.declared.fault.Fault.TheVariants as fault
use Rattle.nr_calls.specs.declared.plan.NrPlan.{NrPlan}

-- a plan for b bits, for C
abbrev pub nr_plan_of : Graph → ℕ → Numbers → NrPlan
nr_plan_of graph b p = record {
  graph = graph_number graph;
  b = b;
  l = p.l;
  c = p.c;
  kdash = p.kdash;
  kb = p.kb;
  z = p.z;
  set = p.set;
  k = p.k;
  n = p.n;
  reserved = 0 ∷ 0 ∷ [];
}

-- a base graph, and the numbers of a plan
pub record Planned : Type 0 where
  pub graph : Graph
  pub plan : Numbers

-- the base graph and the numbers of a transport block of a bits, or the first fault (TS 38.212, 5.2.2, 6.2.2 and 7.2.2)
unfoldable pub planned_said : ℕ → ℕ → Result Planned Fault
planned_said rate2048 a = do
  whole ← err_unless (fault.Desk desk.Size) (is_size a)
  graph ← with_fault (λ e. fault.Desk (desk.Pick e)) (pick_said a rate2048)
  p ← with_fault (λ e. fault.Desk (desk.Seg e)) (plan_of graph (attached_length a))
  Ok (record { graph = graph; plan = p })

-- the plan as C has it, or the first fault
abbrev pub plan_said : ℕ → ℕ → Result NrPlan Fault
plan_said rate2048 a = planned_said rate2048 a >>= λ p. Ok (nr_plan_of p.graph (attached_length a) p.plan)
