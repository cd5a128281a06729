-- How the calls of a client end that need nothing more.
use Rattle.std.proofs.Common.{◌≡◌, ◌≢◌, ◌⊎◌, ℕ, Bool, true, false, List, [], ◌∷◌, append-nil, Option, Some, None, Result, Ok, Err, refl, sym, ap, ◌∙◌, subst, inl, inr}
use Rattle.std.specs.Prelude.{IfOk, IfErr, option_map}
use Rattle.std.specs.FinMap as map
use Rattle.std.specs.Result.{result_ok}
use Rattle.coda_disk.specs.Told.{Told}
use Rattle.coda_fid.specs.Fid.{root_of}
use Rattle.coda_fid.specs.declared.fid.Fid.{Fid}
use Rattle.coda_fid.specs.declared.op.Record.{Record}
use Rattle.coda_journal.specs.declared.header.Header.{Header}
use Rattle.coda_journal.specs.declared.journal.Journal.{Journal}
use Rattle.coda_record.specs.declared.entry.ClientEntry.TheVariants.{Op}
use Rattle.coda_tree.specs.Bindings.{Name}
use Rattle.coda_tree.specs.Volume.{Nodes}
use Rattle.coda_tree.specs.declared.node.Node.{Node}
use Rattle.coda_tree.specs.declared.node.NodeKind.{NodeKind}
use Rattle.coda_tree.specs.declared.node.NodeKind.TheVariants.{File, Link, Dir}
use Rattle.coda_venus.specs.Ask.{Asked}
use Rattle.coda_venus.specs.History.{Payload, state_of}
use Rattle.coda_venus.specs.Keeping.{IsOwn, Falls, operation, done_of, operate_due, seen_at, cached, DoesKeepIn, KeepsOne, KeepingOne, refusal_in, IsFull}
use Rattle.coda_venus.specs.Looking.{then_find, held, found, step_in, step_from, resolve, OrMemory}
use Rattle.coda_venus.specs.Standing.{IsUp}
use Rattle.coda_venus.specs.declared.done.Done.{Done}
use Rattle.coda_venus.specs.declared.refused.Refused.{Refused}
use Rattle.coda_venus.specs.declared.refused.Refused.TheVariants as why
use Rattle.coda_venus.specs.declared.seen.Seen.{Seen}
use Rattle.coda_venus.specs.declared.venus.Venus.{Venus}
use Rattle.coda_serving.specs.Answering.{Call, operating, showing, shown_as, shown_among, Ends}
use Rattle.coda_serving.specs.declared.asking.Showing.{Showing}
use Rattle.coda_serving.specs.declared.asking.Showing.TheVariants.{Content, Names}

-- two refusals that are one
pub err_is : (A : Type 0) (x y : Refused) → (let e : Refused → Result A Refused = λ z. Err z in e x ≡ e y) → x ≡ y
err_is A x y e = cc

-- a call is refused for what it comes to
refused : {D A R : Type 0} (told : D → Told) (header : Header) (offers : Option Nodes) (call : Call A R) (past : List Payload) (fids : List Fid) (new : Venus D) (e : Refused) → IsOwn e → ((fid : Fid) → e ≢ why.Need fid)
    → call.comes (state_of header past) ≡ Err e → IsUp told header new past → Ends told header offers call past fids new (Err e)
refused told header offers call past fids new why.Memory own need is up = up
refused told header offers call past fids new why.JournalFull own need is up = (inl is, up)
refused told header offers call past fids new why.DiskFault own need is up = absurd own
refused told header offers call past fids new (why.Need fid) own need is up = absurd (need fid refl)
refused told header offers call past fids new why.Down own need is up = absurd own
refused told header offers call past fids new (why.TooBig n) own need is up = (is, up)
refused told header offers call past fids new why.NotFound own need is up = (is, up)
refused told header offers call past fids new why.NotDir own need is up = (is, up)
refused told header offers call past fids new why.Exists own need is up = (is, up)
refused told header offers call past fids new why.IsDir own need is up = (is, up)
refused told header offers call past fids new why.NotFile own need is up = (is, up)
refused told header offers call past fids new why.NotEmpty own need is up = (is, up)
refused told header offers call past fids new why.Loop own need is up = (is, up)
refused told header offers call past fids new why.LogFull own need is up = (is, up)
refused told header offers call past fids new (why.Frozen n h) own need is up = (is, up)
refused told header offers call past fids new why.Nothing own need is up = (is, up)
refused told header offers call past fids new (why.Young a w) own need is up = (is, up)
refused told header offers call past fids new (why.NotFrozen n) own need is up = (is, up)
refused told header offers call past fids new (why.WrongNumber k n) own need is up = (is, up)

-- ---- operations

-- what a call that is to keep an operation leaves
kept : {D : Type 0} (told : D → Told) (header : Header) (offers : Option Nodes) (now volume : ℕ) (ask : Asked) (past : List Payload) (fids : List Fid) (old new : Venus D) (rec : Record) (result : Result Done Refused)
    → operation (state_of header past) now volume ask ≡ Ok rec → IfOk result (λ done. done ≡ done_of rec) → KeepsOne told header old past (Op volume rec ∷ []) new (refusal_in result)
    → Ends told header offers (operating now volume ask) past fids new result
kept told header offers now volume ask past fids old new rec (Ok done) is said k = record { found = rec; comes = is; is = said; up = k.1 }
kept told header offers now volume ask past fids old new rec (Err why.JournalFull) is said k = (
  inr (Op volume rec ∷ [], inr (rec, is, refl), subst (λ (j : Journal _). IsFull j (Op volume rec ∷ [])) (sym k.1.0) k.0),
  k.1.1,
)
kept told header offers now volume ask past fids old new rec (Err why.Memory) is said k = k.1
kept told header offers now volume ask past fids old new rec (Err why.DiskFault) is said k = record { payload = Op volume rec ∷ []; next = inr (rec, is, refl); down = k.1; stands = k.2 }
kept told header offers now volume ask past fids old new rec (Err (why.Need fid)) is said k = absurd k
kept told header offers now volume ask past fids old new rec (Err why.Down) is said k = absurd k
kept told header offers now volume ask past fids old new rec (Err (why.TooBig n)) is said k = absurd k
kept told header offers now volume ask past fids old new rec (Err why.NotFound) is said k = absurd k
kept told header offers now volume ask past fids old new rec (Err why.NotDir) is said k = absurd k
kept told header offers now volume ask past fids old new rec (Err why.Exists) is said k = absurd k
kept told header offers now volume ask past fids old new rec (Err why.IsDir) is said k = absurd k
kept told header offers now volume ask past fids old new rec (Err why.NotFile) is said k = absurd k
kept told header offers now volume ask past fids old new rec (Err why.NotEmpty) is said k = absurd k
kept told header offers now volume ask past fids old new rec (Err why.Loop) is said k = absurd k
kept told header offers now volume ask past fids old new rec (Err why.LogFull) is said k = absurd k
kept told header offers now volume ask past fids old new rec (Err (why.Frozen n h)) is said k = absurd k
kept told header offers now volume ask past fids old new rec (Err why.Nothing) is said k = absurd k
kept told header offers now volume ask past fids old new rec (Err (why.Young a w)) is said k = absurd k
kept told header offers now volume ask past fids old new rec (Err (why.NotFrozen n)) is said k = absurd k
kept told header offers now volume ask past fids old new rec (Err (why.WrongNumber k' n)) is said k = absurd k

-- nothing changed, so the refusal is no fault of the disk
still_own : {D : Type 0} (old new : Venus D) (e : Refused) → new ≡ old → old.down ≡ false → (e ≡ why.Down → old.down ≡ true) → (e ≡ why.DiskFault → new.down ≡ true) → IsOwn e
still_own old new why.Down same up down fault = (let no : false ≡ true = sym up ∙ down refl in cc)
still_own old new why.DiskFault same up down fault = (let no : false ≡ true = sym up ∙ sym (ap (λ (v : Venus _). v.down) same) ∙ fault refl in cc)
still_own old new why.Memory same up down fault = tt
still_own old new why.JournalFull same up down fault = tt
still_own old new (why.Need fid) same up down fault = tt
still_own old new (why.TooBig n) same up down fault = tt
still_own old new why.NotFound same up down fault = tt
still_own old new why.NotDir same up down fault = tt
still_own old new why.Exists same up down fault = tt
still_own old new why.IsDir same up down fault = tt
still_own old new why.NotFile same up down fault = tt
still_own old new why.NotEmpty same up down fault = tt
still_own old new why.Loop same up down fault = tt
still_own old new why.LogFull same up down fault = tt
still_own old new (why.Frozen n h) same up down fault = tt
still_own old new why.Nothing same up down fault = tt
still_own old new (why.Young a w) same up down fault = tt
still_own old new (why.NotFrozen n) same up down fault = tt
still_own old new (why.WrongNumber k n) same up down fault = tt

module _ {D : Type 0} (told : D → Told) (header : Header) (offers : Option Nodes) (past : List Payload) (fids : List Fid) (old new : Venus D) (up : IsUp told header old past) where
  module _ (now volume : ℕ) (ask : Asked) (result : Result Done Refused) (need : (fid : Fid) → result ≢ Err (why.Need fid)) where
    -- what is said of an operation that was accepted
    said_of : (rec : Record) → operation (state_of header past) now volume ask ≡ Ok rec → (r : Result Done Refused) → IfOk r (λ done. option_map done_of (result_ok (operation (state_of header past) now volume ask)) ≡ Some done) → IfOk r (λ done. done ≡ done_of rec)
    said_of rec is (Ok done) said = some_is (done_of rec) done (sym (ap (λ r. option_map done_of (result_ok r)) is) ∙ said)
      where
        some_is : (x y : Done) → Some x ≡ Some y → y ≡ x
        some_is x y e = cc
    said_of rec is (Err e) said = tt

    -- nothing was due
    unkept : (e : Refused) → operation (state_of header past) now volume ask ≡ Err e → new ≡ old → result ≡ Err why.Memory ⊎ result ≡ Err e → (result ≡ Err why.Down → old.down ≡ true) → (result ≡ Err why.DiskFault → new.down ≡ true)
        → Ends told header offers (operating now volume ask) past fids new result
    unkept e is same (inl memory) down fault = subst (Ends told header offers (operating now volume ask) past fids new) (sym memory) (subst (λ v. IsUp told header v past) (sym same) up)
    unkept e is same (inr own) down fault =
        subst (Ends told header offers (operating now volume ask) past fids new) (sym own)
        (refused told header offers (operating now volume ask) past fids new e (still_own old new e same up.up (λ d. down (own ∙ ap Err d)) (λ d. fault (own ∙ ap Err d))) (λ fid n. need fid (own ∙ ap Err n)) is (subst (λ v. IsUp told header v past) (sym same) up))

    pub operated : DoesKeepIn told header old past (operate_due (state_of header past) now volume ask) new result → IfOk result (λ done. option_map done_of (result_ok (operation (state_of header past) now volume ask)) ≡ Some done)
        → (result ≡ Err why.Down → old.down ≡ true) → (result ≡ Err why.DiskFault → new.down ≡ true) → Ends told header offers (operating now volume ask) past fids new result
    operated does said down fault = by (operation (state_of header past) now volume ask) refl
      where
        by : (r : Result Record Refused) → operation (state_of header past) now volume ask ≡ r → Ends told header offers (operating now volume ask) past fids new result
        by (Ok rec) is =
            let keeping : KeepingOne told header old past (Op volume rec ∷ []) new result = subst (λ r. DoesKeepIn told header old past (then_find r (λ x. Ok (Op volume x ∷ []))) new result) is does in
            kept told header offers now volume ask past fids old new rec result is (said_of rec is result said) keeping.answers
        by (Err e) is =
            let not : ((result ≡ Err why.Memory) ⊎ (result ≡ Err e)) × (new ≡ old) = subst (λ r. DoesKeepIn told header old past (then_find r (λ x. Ok (Op volume x ∷ []))) new result) is does in
            unkept e is not.1 not.0 down fault

-- the object that an operation needs
pub need_of : {D : Type 0} (told : D → Told) (header : Header) (past : List Payload) (old new : Venus D) (now volume : ℕ) (ask : Asked) (result : Result Done Refused) (fid : Fid) → DoesKeepIn told header old past (operate_due (state_of header past) now volume ask) new result
    → result ≡ Err (why.Need fid) → operation (state_of header past) now volume ask ≡ Err (why.Need fid)
need_of told header past old new now volume ask result fid does need = by (operation (state_of header past) now volume ask) refl
  where
    by : (r : Result Record Refused) → operation (state_of header past) now volume ask ≡ r → operation (state_of header past) now volume ask ≡ Err (why.Need fid)
    by (Ok rec) is =
        let keeping : KeepingOne told header old past (Op volume rec ∷ []) new result = subst (λ r. DoesKeepIn told header old past (then_find r (λ x. Ok (Op volume x ∷ []))) new result) is does in
        absurd (subst (λ r. KeepsOne told header old past (Op volume rec ∷ []) new (refusal_in r)) need keeping.answers)
    by (Err e) is =
        let not : ((result ≡ Err why.Memory) ⊎ (result ≡ Err e)) × (new ≡ old) = subst (λ r. DoesKeepIn told header old past (then_find r (λ x. Ok (Op volume x ∷ []))) new result) is does in
        elim not.0 [
          | inl memory ↦ absurd (let no : why.Memory ≡ why.Need fid = err_is Done why.Memory (why.Need fid) (sym memory ∙ need) in cc)
          | inr own ↦ is ∙ ap Err (err_is Done e (why.Need fid) (sym own ∙ need))
        ]

-- ---- what is shown

-- the object that it needs
pub seen_need : {D : Type 0} (told : D → Told) (header : Header) (past : List Payload) (new : Venus D) (what : Showing) (volume : ℕ) (path : List Name) (said : Result Seen Refused) (fid : Fid) → IsUp told header new past
    → OrMemory said (seen_at (shown_as what) new.client.cache.nodes volume path) → said ≡ Err (why.Need fid) → seen_at (shown_as what) (state_of header past).held.nodes volume path ≡ Err (why.Need fid)
seen_need told header past new what volume path said fid up (inl memory) need = absurd (let no : why.Memory ≡ why.Need fid = err_is Seen why.Memory (why.Need fid) (sym memory ∙ need) in cc)
seen_need told header past new what volume path said fid up (inr is) need = ap (λ h. seen_at (shown_as what) h.nodes volume path) up.state.held ∙ sym is ∙ need

-- its refusal, if it is one, is its own
abbrev IsOwned : {A : Type 0} → Result A Refused → Type 0
IsOwned r = IfErr r IsOwn

own_then : {A B : Type 0} (r : Result A Refused) (next : A → Result B Refused) → IsOwned r → ((x : A) → IsOwned (next x)) → IsOwned (then_find r next)
own_then (Err e) next is rest = is
own_then (Ok x) next is rest = rest x

own_found : (o : Option Fid) → IsOwned (found o)
own_found None = tt
own_found (Some fid) = tt

own_step_in : (kind : NodeKind) (name : Name) → IsOwned (step_in kind name)
own_step_in (File content) name = tt
own_step_in (Link target) name = tt
own_step_in (Dir entries) name = own_found (map.get entries name)

own_step : (o : Option Node) (at : Fid) (name : Name) → IsOwned (step_from o at name)
own_step None at name = tt
own_step (Some node) at name = own_step_in node.kind name

own_held : (o : Option Node) (fid : Fid) → IsOwned (held o fid)
own_held None fid = tt
own_held (Some node) fid = tt

own_resolve : (m : Nodes) (at : Fid) (names : List Name) → IsOwned (resolve m at names)
own_resolve m at [] = own_held (map.get m at) at
own_resolve m at (name ∷ names) = own_then (step_from (map.get m at) at name) (λ next. resolve m next names) (own_step (map.get m at) at name) (λ next. own_resolve m next names)

own_cached : (o : Option Node) (fid : Fid) → IsOwned (cached o fid)
own_cached None fid = tt
own_cached (Some node) fid = tt

own_shown : (what : Showing) (node : Node) (kind : NodeKind) → IsOwned (shown_as what node kind)
own_shown Content node (File content) = tt
own_shown Content node (Link target) = tt
own_shown Content node (Dir entries) = tt
own_shown Names node (File content) = tt
own_shown Names node (Link target) = tt
own_shown Names node (Dir entries) = tt

pub own_seen : (what : Showing) (m : Nodes) (volume : ℕ) (path : List Name) → IsOwned (seen_at (shown_as what) m volume path)
own_seen what m volume path =
    own_then (resolve m (root_of volume) path) (λ fid. then_find (cached (map.get m fid) fid) (λ node. then_find (shown_as what node node.kind) (λ n. Ok (record { fid = fid; node = n })))) (own_resolve m (root_of volume) path)
    (λ fid. own_then (cached (map.get m fid) fid) (λ node. then_find (shown_as what node node.kind) (λ n. Ok (record { fid = fid; node = n }))) (own_cached (map.get m fid) fid)
    (λ node. own_then (shown_as what node node.kind) (λ n. Ok (record { fid = fid; node = n })) (own_shown what node node.kind) (λ n. tt)))

-- the same of what a call answers
pub own_answer : (what : Showing) (m : Nodes) (volume : ℕ) (path : List Name) (said : Result Seen Refused) → OrMemory said (seen_at (shown_as what) m volume path) → IsOwned said
own_answer what m volume path said (inl memory) = subst IsOwned (sym memory) tt
own_answer what m volume path said (inr is) = subst IsOwned (sym is) (own_seen what m volume path)

-- by whether the client is down
module _ (b : Bool) (what : Showing) (m : Nodes) (volume : ℕ) (path : List Name) (said : Result Seen Refused) (is : b ≡ false → OrMemory said (seen_at (shown_as what) m volume path)) where
  pub down_was : said ≡ Err why.Down → b ≡ true
  down_was down = by b refl
    where
      by : (x : Bool) → b ≡ x → b ≡ true
      by true e = e
      by false e = absurd (subst IsOwned down (own_answer what m volume path said (is e)))

  pub no_fault : (b ≡ true → said ≡ Err why.Down) → said ≢ Err why.DiskFault
  no_fault down fault = by b refl
    where
      by : (x : Bool) → b ≡ x → ⊥
      by true e = (let no : why.Down ≡ why.DiskFault = err_is Seen why.Down why.DiskFault (sym (down e) ∙ fault) in cc)
      by false e = subst IsOwned fault (own_answer what m volume path said (is e))

-- what is no fault of the disk takes no client down
falls_for : (A : Type 0) (b : Bool) (e : Refused) → e ≢ why.DiskFault → Falls {A = A} b b (Err e)
falls_for A b why.DiskFault no_fault = absurd (no_fault refl)
falls_for A b why.Memory no_fault = refl
falls_for A b why.JournalFull no_fault = refl
falls_for A b (why.Need fid) no_fault = refl
falls_for A b why.Down no_fault = refl
falls_for A b (why.TooBig n) no_fault = refl
falls_for A b why.NotFound no_fault = refl
falls_for A b why.NotDir no_fault = refl
falls_for A b why.Exists no_fault = refl
falls_for A b why.IsDir no_fault = refl
falls_for A b why.NotFile no_fault = refl
falls_for A b why.NotEmpty no_fault = refl
falls_for A b why.Loop no_fault = refl
falls_for A b why.LogFull no_fault = refl
falls_for A b (why.Frozen n h) no_fault = refl
falls_for A b why.Nothing no_fault = refl
falls_for A b (why.Young a w) no_fault = refl
falls_for A b (why.NotFrozen n) no_fault = refl
falls_for A b (why.WrongNumber k n) no_fault = refl

pub shown_falls : (b : Bool) (fids : List Fid) (said : Result Seen Refused) → said ≢ Err why.DiskFault → Falls b b (shown_among fids said)
shown_falls b fids (Ok seen) no_fault = refl
shown_falls b fids (Err e) no_fault = falls_for (Seen × Bool) b e (λ is. no_fault (ap Err is))

-- a refusal to show is one of what was said
pub refused_by : (fids : List Fid) (said : Result Seen Refused) (e : Refused) → shown_among fids said ≡ Err e → said ≡ Err e
refused_by fids (Ok seen) e is = absurd cc
refused_by fids (Err x) e is = ap Err (err_is (Seen × Bool) x e is)

-- what is said of what is shown
pub shown : {D : Type 0} (told : D → Told) (header : Header) (offers : Option Nodes) (past : List Payload) (fids : List Fid) (new : Venus D) (what : Showing) (volume : ℕ) (path : List Name) (said : Result Seen Refused) → IsUp told header new past
    → OrMemory said (seen_at (shown_as what) new.client.cache.nodes volume path) → ((fid : Fid) → said ≢ Err (why.Need fid)) → Ends told header offers (showing what volume path) past fids new (shown_among fids said)
shown told header offers past fids new what volume path said up (inl memory) need = subst (λ r. Ends told header offers (showing what volume path) past fids new (shown_among fids r)) (sym memory) up
shown told header offers past fids new what volume path said up (inr is) need =
    by said refl (is ∙ sym (ap (λ h. seen_at (shown_as what) h.nodes volume path) up.state.held)) (subst IsOwned (sym is) (own_seen what new.client.cache.nodes volume path))
  where
    by : (r : Result Seen Refused) → said ≡ r → said ≡ (showing what volume path).comes (state_of header past) → IsOwned said → Ends told header offers (showing what volume path) past fids new (shown_among fids said)
    by (Ok seen) r comes own =
        subst (λ s. Ends told header offers (showing what volume path) past fids new (shown_among fids s)) (sym r) (record { found = seen; comes = sym comes ∙ r; is = refl; up = subst (IsUp told header new) (sym (append-nil past)) up })
    by (Err e) r comes own =
        subst (λ s. Ends told header offers (showing what volume path) past fids new (shown_among fids s)) (sym r)
        (refused told header offers (showing what volume path) past fids new e (subst IsOwned r own) (λ fid n. need fid (r ∙ ap Err n)) (sym comes ∙ r) up)
