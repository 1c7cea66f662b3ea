-- Two proofs of a schedule's facts are equal, which a ghost field requires.
use Rattle.std.{specs.Prelude.Bool, specs.Prelude.true, specs.Prelude.false, proofs.Props.props}
use Rattle.nr_files.specs.{Schedule.IsPlaced, declared.schedule.Transmission.Transmission}

-- any two proofs that a transmission has a place are equal
pub IsPlaced-prop : (b : Bool) (x : Transmission) → IsProp (IsPlaced b x)
IsPlaced-prop true x = Prim.hlevel props
IsPlaced-prop false x = Prim.hlevel props
