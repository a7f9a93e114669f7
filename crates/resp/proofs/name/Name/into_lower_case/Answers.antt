use Rattle.std.proofs.Common.{map, sym, ap, ◌∙◌, ℕ}
use Rattle.std.specs.Global.{Vec}
use Rattle.std.specs.Char.{to_ascii_lowercase}
use Rattle.resp.specs.Names.{bytes_at}
use Rattle.resp.proofs.name.Name.into_lower_case.Goals as goal
use Rattle.resp.proofs.name.Name.into_lower_case.Goals.{in-Inline, in-Heap}

pub returns : goal.returns
returns c = elim c.match-self.branch [
  | in-Inline w ↦ ap bytes_at w.place-is ∙ w.short_lower_case.ensures
      ∙ ap (map to_ascii_lowercase) (sym (ap bytes_at w.in-Inline.is) ∙ c.self.view_is)
  | in-Heap w ↦ ap bytes_at w.place-is ∙ w.long_lower_case.ensures
      ∙ ap (map to_ascii_lowercase) (ap (λ (v : Vec ℕ). v.items) w.in-Heap.bytes-is ∙ sym (ap bytes_at w.in-Heap.is) ∙ c.self.view_is)
]
