-- Elements as they are written, piece by piece.
use Rattle.std.proofs.Common.{◌≡◌, ◌∙◌, ◌++◌, ap, sym, subst}
use Rattle.std.proofs.Common.{ℕ, List, None, Some, Option, append_assoc}
use Rattle.std.proofs.lemmas.List.Concat.{flat_map-append}
use Rattle.std.specs.List.{flat_map}
use Rattle.std.proofs.KnownBytes.{Appends-trans, Appends-kept, Keeps-refl, append_known-grown}
use Rattle.std.specs.Io.KnownBytes.{Appends, Keeps, append_known}

-- one more line was put, and then it may have been written
pub sent_on : (first bytes after : Option (List ℕ)) (before put done line all : List ℕ)
    → Appends first (append_known bytes before) done → put ≡ before ++ line → Keeps (append_known bytes put) after
    → done ++ line ≡ all → Appends first after all
sent_on first bytes after before put done line all appended grown kept whole =
    subst (Appends first after) whole
    (Appends-kept first (append_known bytes put) after (done ++ line)
    (Appends-trans first (append_known bytes before) (append_known bytes put) done line appended
    (append_known-grown (append_known bytes before) bytes before put line (Keeps-refl (append_known bytes before)) grown))
    kept)

-- what was put first, what was then appended, and what was put last and written
pub sent_whole : (first bytes after : Option (List ℕ)) (head lines put tail last : List ℕ)
    → Appends (append_known first head) (append_known bytes put) lines → last ≡ put ++ tail → Appends bytes after last
    → Appends first after (head ++ (lines ++ tail))
sent_whole None bytes after head lines put tail last appended behind sent = tt
sent_whole (Some x) None after head lines put tail last appended behind sent = absurd appended
sent_whole (Some x) (Some y) None head lines put tail last appended behind sent = absurd sent
sent_whole (Some x) (Some y) (Some z) head lines put tail last appended behind sent =
    sent ∙ ap (λ l. y ++ l) behind ∙ sym (append_assoc y put tail) ∙ ap (λ l. l ++ tail) appended ∙ simp append_assoc

-- the elements of one more list, behind those that were written
pub sent_more : {A : Type 0} (code : A → List ℕ) (u v w : Option (List ℕ)) (ks ls : List A) → Appends u v (flat_map code ks)
    → Appends v w (flat_map code ls) → Appends u w (flat_map code (ks ++ ls))
sent_more code u v w ks ls a b =
    subst (Appends u w) (sym (flat_map-append code ks ls)) (Appends-trans u v w (flat_map code ks) (flat_map code ls) a b)
