use Rattle.std.proofs.Common.{◌≡◌, ◌∙◌, ap, arith, length, map, min, sym, take}
use Rattle.tasks.specs.Starved.{wants_in}
use Rattle.resp.proofs.Contents.{content-Array, content-Bulks}
use Rattle.resp.specs.Content.{content}
use Rattle.layer_results.specs.Results.{member_count}
use Rattle.layer_results.specs.Wants.{wants_among}
use Rattle.layer_results.proofs.Names.{no_wants, places_taken}
use Rattle.layer_results.proofs.starving.places.Goals as goal

pub returns-in-Array : goal.returns-in-Array
returns-in-Array c =
    let count = member_count c.args.words.now in let replies = c.in-Array.replies.items in
    let least : c.min.result ≡ min count (length replies) = omega
    (arith, c.member_count.ensures, c.min.ensures, c.len.ensures, c.in-Array.replies.ok.0) in
    ap (λ r. wants_in count (content r)) c.in-Array.is ∙ ap (wants_in count) (content-Array c.in-Array.replies)
    ∙ places_taken count c.min.result replies least
    ∙ ap (λ rs. wants_among 1 (map content (take c.min.result rs))) (sym c.deref.ensures.value)

pub returns-in-Bulks : goal.returns-in-Bulks
returns-in-Bulks c =
    let count = member_count c.args.words.now in
    ap (λ r. wants_in count (content r)) c.in-Bulks.is ∙ ap (wants_in count) (content-Bulks c.in-Bulks._texts)
    ∙ no_wants count 1 c.in-Bulks._texts
