use Rattle.std.proofs.Common.{◌≡◌, List, Ok, Err, sym, ap, ◌∙◌, inl, inr}
use Rattle.std.proofs.Math.Logic.{∥∥₁_elim}
use Rattle.std.specs.Prelude.{◌⊎◌, IfOk, IfErr}
use Rattle.std.specs.BTreeMap as tree
use Rattle.std.specs.Ordering.{nat_cmp}
use Rattle.coda_fid.specs.declared.fid.Fid.{Fid}
use Rattle.coda_walk.specs.Going.{is_listed}
use Rattle.coda_cache.specs.Room.{evicted_after}
use Rattle.coda_cache.specs.declared.fault.CacheFault.TheVariants as fault
use Rattle.coda_venus.specs.Code.{volume_in}
use Rattle.coda_venus.proofs.Mentioned.{evicted_alike, rising_prop, next_rises}
use Rattle.coda_venus.proofs.venus.Venus.room_after.Goals as goal

pub mentioned_after-requires : goal.mentioned_after-requires
mentioned_after-requires g c =
    let log = (volume_in (tree.get nat_cmp c.args.self.now.client.logs c.args.volume)).log in
    ∥∥₁_elim c.args.self.now.sendable (rising_prop _) (λ all. next_rises log c.args.rec.now (all c.args.volume).kept c.requires.next)

pub returns-clause-gone : goal.returns-clause-gone
returns-clause-gone g c = λ mentioned are.
    let self = c.args.self.now.client in
    let who = λ (fids : List Fid). evicted_after self.cache self.number c.args.volume c.args.rec.now fids c.args.looked.now in
    let items = c.deref.result.now in
    let same : who mentioned ≡ who items = evicted_alike self.cache self.number c.args.volume c.args.rec.now mentioned items c.args.looked.now
    (λ f at. are f at ∙ sym (ap (λ (l : List Fid). is_listed l f) c.deref.ensures.value ∙ c.in_ok-mentioned.ensures f)) in
    (elim c.evict_after.result as (λ r. IfOk r (λ v. who items ≡ Ok v.items) → IfOk r (λ v. who mentioned ≡ Ok v.items)) [
      | Ok v ↦ λ is. same ∙ is
      | Err e ↦ λ h. h
    ]) (c.evict_after.ensures.gone self.number)

pub returns-clause-causes : goal.returns-clause-causes
returns-clause-causes g c = λ mentioned are.
    let self = c.args.self.now.client in
    let who = λ (fids : List Fid). evicted_after self.cache self.number c.args.volume c.args.rec.now fids c.args.looked.now in
    let items = c.deref.result.now in
    let same : who mentioned ≡ who items = evicted_alike self.cache self.number c.args.volume c.args.rec.now mentioned items c.args.looked.now
    (λ f at. are f at ∙ sym (ap (λ (l : List Fid). is_listed l f) c.deref.ensures.value ∙ c.in_ok-mentioned.ensures f)) in
    (elim c.evict_after.result as (λ r. IfErr r (λ why. (why ≡ fault.Memory) ⊎ (who items ≡ Err why)) → IfErr r (λ why. (why ≡ fault.Memory) ⊎ (who mentioned ≡ Err why))) [
      | Ok v ↦ λ h. h
      | Err e ↦ λ h. elim h [
        | inl memory ↦ inl memory
        | inr is ↦ inr (same ∙ is)
      ]
    ]) (c.evict_after.ensures.causes self.number)
