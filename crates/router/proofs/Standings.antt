-- How a connection stands by what came of its words.
use Rattle.std.proofs.Common.{◌≡◌, ℕ, true, false, cond, List, [], Some, None, refl, ap, sym, subst}
use Rattle.std.specs.FinMap.{empty}
use Rattle.tasks.specs.Batch.{batch_effect}
use Rattle.tasks.specs.Keys.{looks_at_keys}
use Rattle.groups.specs.declared.request.RequestId.{RequestId}
use Rattle.placement.specs.Layout.{Layout, IsTable}
use Rattle.resp.specs.Content.{content}
use Rattle.resp.specs.declared.reply.Reply.{Reply}
use Rattle.router.specs.Submitting.{StandsAs, TellsOf}
use Rattle.router.specs.declared.connection.Standing.{Standing}
use Rattle.router.specs.declared.connection.Standing.TheVariants.{Waiting, Answered}
use Rattle.sessions.specs.Session.{Answer, Now, Go}
use Rattle.tasks.proofs.Keyless.{addresses}
use Rattle.tasks.specs.Tasks.{Task, task_groups, keyless_reply, deed_effect, AddressesBy}
use Rattle.worded.specs.declared.worded.Worded.{Worded}

-- the standing of a request that was answered at once
abbrev pub at_once : RequestId → Reply → Standing
at_once id reply = Answered (record { id = id; reply = reply; stamp = None })

-- what is answered addresses no group
pub told_now : (t : Layout) (id : RequestId) (answer : Answer) (reply : Reply) → answer ≡ Now (content reply)
    → TellsOf t id answer (at_once id reply, [])
told_now t id answer reply is =
    subst (λ a. TellsOf t id a (at_once id reply, [])) (sym is) (record { standing = refl; groups = refl })

-- a task that addresses no group looks at no key
pub looks_at_none : (t : Layout) (task : Task) → IsTable t → task_groups t task ≡ [] → looks_at_keys task ≡ false
looks_at_none t task table none =
    elim (looks_at_keys task)
    as (λ b. AddressesBy (cond b None (Some (deed_effect (task, []) empty).1)) (task_groups t task) → b ≡ false) [
      | true ↦ λ some. let there = some.2 in cc
      | false ↦ λ _. refl
    ] (addresses t table task)

-- and one that addresses some has no reply at once
pub looks_at_some : (t : Layout) (task : Task) → IsTable t → (task_groups t task ≡ [] → ⊥) → keyless_reply task ≡ None
looks_at_some t task table some =
    elim (looks_at_keys task)
    as (λ b. AddressesBy (cond b None (Some (deed_effect (task, []) empty).1)) (task_groups t task)
    → cond b None (Some (deed_effect (task, []) empty).1) ≡ None) [
      | true ↦ λ _. refl
      | false ↦ λ none. absurd (some none)
    ] (addresses t table task)

pub told_at_once : (t : Layout) (id : RequestId) (task : Task) (reply : Reply) (groups : List ℕ) → looks_at_keys task ≡ false
    → content reply ≡ (batch_effect [] task empty).1 → groups ≡ task_groups t task → TellsOf t id (Go task) (at_once id reply, groups)
told_at_once t id task reply groups looks is addressed =
    record {
      standing = subst (λ b. StandsAs id task (cond b None (Some (deed_effect (task, []) empty).1)) (at_once id reply)) (sym looks)
          (ap (λ said. record { id = id; reply = said; stamp = None }) is);
      groups = addressed;
    }

pub told_waiting : (t : Layout) (id : RequestId) (task : Task) (asked : Worded) (groups : List ℕ) → keyless_reply task ≡ None
    → asked.batch ≡ task → groups ≡ task_groups t task → TellsOf t id (Go task) (Waiting asked, groups)
told_waiting t id task asked groups none is addressed =
    record {
      standing = subst (λ o. StandsAs id task o (Waiting asked)) (sym none) is;
      groups = addressed;
    }
