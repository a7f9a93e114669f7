-- What a group's state has of each request, after each change of the rule.
use Rattle.std.proofs.Common.{◌≡◌, ℕ, ◌==◌, ◌&&◌, Bool, true, false, cond, not, List, Option, Some, None, refl, sym, ap, ◌∙◌}
use Rattle.std.specs.FinMap.{get, insert, get-empty, get-insert, get-retain_keys, same_map}
use Rattle.groups.specs.declared.request.RequestId.{RequestId}
use Rattle.skeen_core.specs.declared.packet.Delivered.{Delivered}
use Rattle.groups.specs.Request.{same_id, id_cmp, Source, source_cmp}
use Rattle.skeen_core.specs.Group.{GroupState, fresh, heard, next_clock, with_start, with_proposal, without, has_id}
use Rattle.groups.proofs.Ids.{id_total, source_total, id_antisym, source_antisym, id_tied, source_tied}

pub started-fresh : (i : RequestId) → get fresh.started i ≡ None
started-fresh i = get-empty id_cmp i

pub heard-fresh : (i : RequestId) (g : ℕ) → heard fresh i g ≡ None
heard-fresh i g = get-empty source_cmp (record { id = i; from = g })

pub started-with_start : (me : ℕ) (grp : GroupState) (id : RequestId) (floor : ℕ) (groups : List ℕ) (i : RequestId) →
    get (with_start me grp id floor groups).started i ≡ cond (same_id i id) (Some groups) (get grp.started i)
started-with_start me grp id floor groups i =
    get-insert id_total grp.started id groups i ∙ ap (λ b. cond b (Some groups) (get grp.started i)) (id_tied i id)

heard-insert : (grp : GroupState) (id : RequestId) (from n : ℕ) (i : RequestId) (g : ℕ) →
    get (insert grp.proposals (record { id = id; from = from }) n) (record { id = i; from = g })
    ≡ cond (same_id i id && g == from) (Some n) (heard grp i g)
heard-insert grp id from n i g =
    get-insert source_total grp.proposals (record { id = id; from = from }) n (record { id = i; from = g })
    ∙ ap (λ b. cond b (Some n) (heard grp i g)) (source_tied (record { id = i; from = g }) (record { id = id; from = from }))

pub heard-with_start : (me : ℕ) (grp : GroupState) (id : RequestId) (floor : ℕ) (groups : List ℕ) (i : RequestId) (g : ℕ) →
    heard (with_start me grp id floor groups) i g ≡ cond (same_id i id && g == me) (Some (next_clock grp floor)) (heard grp i g)
heard-with_start me grp id floor groups i g = heard-insert grp id me (next_clock grp floor) i g

pub heard-with_proposal : (grp : GroupState) (id : RequestId) (from n : ℕ) (i : RequestId) (g : ℕ) →
    heard (with_proposal grp id from n) i g ≡ cond (same_id i id && g == from) (Some n) (heard grp i g)
heard-with_proposal grp id from n i g = heard-insert grp id from n i g

pub turned : {X : Type 0} (b : Bool) (x : Option X) → cond (not b) x None ≡ cond b None x
turned true x = refl
turned false x = refl

pub started-without : (grp : GroupState) (ds : List Delivered) (i : RequestId) →
    get (without grp ds).started i ≡ cond (has_id ds i) None (get grp.started i)
started-without grp ds i =
    get-retain_keys grp.started (λ j. not (has_id ds j)) i (λ j e. ap (λ k. not (has_id ds k)) (sym (id_antisym i j e)))
    ∙ turned (has_id ds i) (get grp.started i)

pub heard-without : (grp : GroupState) (ds : List Delivered) (i : RequestId) (g : ℕ) →
    heard (without grp ds) i g ≡ cond (has_id ds i) None (heard grp i g)
heard-without grp ds i g =
    get-retain_keys grp.proposals (λ s. not (has_id ds s.id)) (record { id = i; from = g })
    (λ s e. ap (λ (t : Source). not (has_id ds t.id)) (sym (source_antisym (record { id = i; from = g }) s e)))
    ∙ turned (has_id ds i) (heard grp i g)

-- two states that answer alike, and have reached the same, are the same
pub same_state : (a b : GroupState) → a.clock ≡ b.clock → a.reached ≡ b.reached → ((i : RequestId) → get a.started i ≡ get b.started i) →
    ((i : RequestId) (g : ℕ) → heard a i g ≡ heard b i g) → a ≡ b
same_state a b clocks reached starts hears =
    let started = same_map id_total id_antisym a.started b.started starts in
    let proposals = same_map source_total source_antisym a.proposals b.proposals (λ s. hears s.id s.from) in
    λ k. record { clock = clocks k; started = started k; proposals = proposals k; reached = reached k }
