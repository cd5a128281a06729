use Rattle.std.proofs.Common.{rules, ap, ◌∙◌, sym, subst, List, [], ◌∷◌, ◌++◌, ℕ}
use Rattle.coda_journal.specs.Heading.{IsHeading}
use Rattle.coda_journal.specs.Mount.{Mounted}
use Rattle.coda_journal.proofs.Mounts.{unmade1, not_made, is_made}
use Rattle.coda_journal.proofs.mounting.mount_disk.Goals as goal

pub returns-in_err-make-in-Unmade-clause-answers : goal.returns-in_err-make-in-Unmade-clause-answers
returns-in_err-make-in-Unmade-clause-answers g c = λ h.
    let header = c.args.header.now in
    let told = g.D.Disk.told in
    let t0 = told c.args.disk.now in
    let t1 = told c.look.new.disk in
    let t2 = told c.make.new.disk in
    let same = c.deref.ensures.value ∙ c.in_ok-asked.ensures.bytes in
    let same2 = c.deref-2.ensures.value ∙ c.in_ok-asked.ensures.bytes in
    let q = c.in_ok-heading.ensures.quiet h in
    let only = c.in_ok-heading.ensures.synced h in
    let unmade = subst (IsHeading header t0.seen) c.in-Unmade.is (c.in_ok-heading.ensures.says header same2 c.area_bytes-area.ensures h) in
    let behind = c.deref-in-Unmade.ensures.value ∙ c.in_ok-behind.ensures ∙ ap (λ (l : List ℕ). 0 ∷ l ++ 0 ∷ []) same in
    let m = c.make.ensures.made header behind c.requires q.honest only (unmade1 header c.requires t0 t1 q only unmade) in
    not_made header c.requires t0 t1 q only unmade t2 c.from_residual-in_err-make-in-Unmade.result (search rules) m
    (λ x is. g.met.D.Disk.counts_now c.make.new.disk t1.moment x m.honest m.leaves.later is)

pub returns-in-Unmade-clause-answers : goal.returns-in-Unmade-clause-answers
returns-in-Unmade-clause-answers g c = λ h.
    let header = c.args.header.now in
    let told = g.D.Disk.told in
    let t0 = told c.args.disk.now in
    let t1 = told c.look.new.disk in
    let t2 = told c.make.new.disk in
    let same = c.deref.ensures.value ∙ c.in_ok-asked.ensures.bytes in
    let same2 = c.deref-2.ensures.value ∙ c.in_ok-asked.ensures.bytes in
    let q = c.in_ok-heading.ensures.quiet h in
    let only = c.in_ok-heading.ensures.synced h in
    let unmade = subst (IsHeading header t0.seen) c.in-Unmade.is (c.in_ok-heading.ensures.says header same2 c.area_bytes-area.ensures h) in
    let behind = c.deref-in-Unmade.ensures.value ∙ c.in_ok-behind.ensures ∙ ap (λ (l : List ℕ). 0 ∷ l ++ 0 ∷ []) same in
    let m = c.in_ok-make-in-Unmade.ensures.made header behind c.requires q.honest only (unmade1 header c.requires t0 t1 q only unmade) in
    subst (λ (l : List (List ℕ)). Mounted header t0 t2 64 0 l) (sym c.new.ensures.items) (is_made header c.requires t0 t1 q only unmade t2 m)
