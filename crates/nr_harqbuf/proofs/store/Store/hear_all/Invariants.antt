-- The positions so far are merged, and the others are unchanged. Of the marks only the list of positions is written.
use Rattle.nr_harqbuf.proofs.{Common.◌≡◌, Common.◌*◌, Common.min, Common.length, MergedListFacts.IsMerged}
use Rattle.nr_harqbuf.proofs.store.Store.hear_all.Given as goal

abbrev pub invariant-loop-i : goal.invariant-loop-i
invariant-loop-i l = record {
  merged :
      IsMerged 0 (min (64 * l.i) (length l.initial.marks.heard.items))
      (record {
        heard = l.initial.self-inside.marks.heard.items;
        value = l.initial.self-inside.marks.value.items;
        marks = l.initial.marks.heard.items;
        clash = l.initial.self-inside.clash;
      })
      l.initial.marks.value.items
      (record {
        heard = l.self-inside.marks.heard.items;
        value = l.self-inside.marks.value.items;
        marks = l.marks.heard.items;
        clash = l.self-inside.clash;
      });
  bits : l.marks.value ≡ l.initial.marks.value;
  room : l.marks.heard.room ≡ l.initial.marks.heard.room;
}
