-- Each event keeps, of each valid copy, that its client has a promise and the object is unchanged, or that word is on
-- its way; and that it is what the log makes of it.
use Rattle.std.proofs.Common.{◌≡◌, ℕ, ◌+◌, ◌≤◌, Bool, true, false, not, cond, ◌&&◌, ◌||◌, ◌==◌, List, [], ◌∷◌, ◌++◌}
use Rattle.std.proofs.Common.{length, take, Option, Some, None, refl, ap, sym, subst, ◌∙◌, inl, inr, ◌⊎◌, arith}
use Rattle.std.proofs.lemmas.Bool.{and_from, eqb-true, eq-eqb, cases_lt, both_ways}
use Rattle.std.proofs.lemmas.List.{length-append, take-append-le, take_all}
use Rattle.coda_fid.specs.Fid.{same_fid}
use Rattle.coda_fid.specs.declared.fid.Fid.{Fid}
use Rattle.coda_fid.proofs.Fids.{same_fid_refl}
use Rattle.coda_tree.specs.declared.node.Node.{Node}
use Rattle.coda_callback.specs.Callbacks.{Callbacks, interest, names, is_promised, is_waiting, promised, broken_where}
use Rattle.coda_callback.specs.Callbacks.{IsOutbox, collected, dropped}
use Rattle.coda_plain.specs.Decisions.{ReplicaEntry}
use Rattle.coda_record.specs.declared.entry.ClientEntry.{ClientEntry}
use Rattle.coda_record.specs.declared.entry.ClientEntry.TheVariants as entry
use Rattle.coda_copies.specs.Copies.{IsCopyOf}
use Rattle.coda_copies.proofs.Entries.{copies_led, fetches_copies, clean_copies}
use Rattle.coda_venus.specs.State.{ClientState, client_after}
use Rattle.coda_coherence.specs.Cell.{Copy, Break, CachingCell, CacheEvent, Fetched, Refused, Acted, Decided, Posted}
use Rattle.coda_coherence.specs.Cell.{Refreshed, OtherPosted, Delivered, Lost, LinkUp, LinkDown, ClientGone}
use Rattle.coda_coherence.specs.Cell.{ReplicaGone, empty_caching_cell, put, put_pair, copies_left, invalidates}
use Rattle.coda_coherence.specs.Cell.{link_cut, break_delivered, break_lost, node_at, given, copy_now, cell_after}
use Rattle.coda_coherence.specs.Cell.{MayFetch, MayAct, MayHappen, IsCacheRun, MissesNoChange}
use Rattle.coda_coherence.specs.Fact.{IsBreakUnderWay, IsChangedSince, CallbackFact, CallbackFactHolds}
use Rattle.coda_coherence.specs.Fact.{IsUnchangedSince, IsPromisedOrTold, IsCoherent}
use Rattle.coda_coherence.proofs.Families.{pair_at, pair_here, pairs_at, copies_at, put_here, put_else, kept_copy}
use Rattle.coda_coherence.proofs.Families.{longer, same_front, or_left, or_both}
use Rattle.coda_coherence.proofs.Interests.{same_interest, same_interest_is, same_interest_refl, promised_promise}
use Rattle.coda_coherence.proofs.Interests.{waiting_promise, promised_broken, waiting_broken, waiting_collected}
use Rattle.coda_coherence.proofs.Interests.{promised_dropped, waiting_dropped}
use Rattle.coda_coherence.proofs.Leaving.{sparing}

-- a Break under way, in a pool where another place changed
still_under_way : (pool : ℕ → Option Break) (n : ℕ) (x : Option Break) (s c : ℕ) (f : Fid) (u : IsBreakUnderWay pool s c f) → (u.number ≡ n → ⊥) → IsBreakUnderWay (put pool n x) s c f
still_under_way pool n x s c f u apart = record {
  number = u.number;
  letter = u.letter;
  posted = put_else pool n x u.number apart ∙ u.posted;
  from_server = u.from_server;
  to_client = u.to_client;
  named = u.named;
  undelivered = u.undelivered;
}

-- the numbers of the letters of a pool where one place changed
numbered_put : (pool : ℕ → Option Break) (k : ℕ) (x : Option Break) (m n : ℕ)
    → ((number : ℕ) (letter : Break) → pool number ≡ Some letter → number ≤ m) → m ≤ n → k ≤ n
    → (number : ℕ) (letter : Break) → put pool k x number ≡ Some letter → number ≤ n
numbered_put pool k x m n numbered more here number letter is =
    elim (number == k) as (λ b. (number == k) ≡ b → cond b x (pool number) ≡ Some letter → number ≤ n) [
      | true ↦ λ e _. let same : number ≡ k = eqb-true number k e in omega arith
      | false ↦ λ _ was. let le : number ≤ m = numbered number letter was in omega arith
    ] refl is

-- two tests of which one fails
apart_by : (c d s t : ℕ) → ((c == d) && (s == t)) ≡ false → s ≡ t → (c == d) ≡ false
apart_by c d s t h e =
    elim (c == d) as (λ b. (b && (s == t)) ≡ false → b ≡ false) [
      | true ↦ λ h. absurd (both_ways (s == t) h (eq-eqb s t e))
      | false ↦ λ _. refl
    ] h

-- a test of a client and another
other_test : (c d : ℕ) (b : Bool) → ((c == d) && b) ≡ false → c ≡ d → b ≡ false
other_test c d b h e = ap (λ x. x && b) (sym (eq-eqb c d e)) ∙ h

module _ (changes : List ReplicaEntry → ReplicaEntry → Fid → Bool) (tell : MissesNoChange changes) where
  -- word that was on its way is
  on_its_way : (h : List ReplicaEntry) (k k' : Callbacks) (pool pool' : ℕ → Option Break) (c : ℕ) (f : Fid) (copy : Copy)
      → (is_promised k c f ≡ true → is_promised k' c f ≡ true)
      → (is_waiting k c f ≡ true → is_waiting k' c f ≡ true)
      → (IsBreakUnderWay pool copy.server c f → IsBreakUnderWay pool' copy.server c f)
      → IsPromisedOrTold h k pool c f copy → IsPromisedOrTold h k' pool' c f copy
  on_its_way h k k' pool pool' c f copy p w u (inl is) = inl (p is.0, is.1)
  on_its_way h k k' pool pool' c f copy p w u (inr (inl is)) = inr (inl (w is))
  on_its_way h k k' pool pool' c f copy p w u (inr (inr is)) = inr (inr (u is))

  -- ---- a promise

  -- the one who fetched has a promise
  promised_now : (k : Callbacks) (c : ℕ) (f : Fid) → is_promised (promised k c f) c f ≡ true
  promised_now k c f = promised_promise k c f c f ∙ or_left _ (is_promised k c f) (same_interest_refl (interest c f))

  -- others have what they had
  told_beside : (h : List ReplicaEntry) (k : Callbacks) (pool : ℕ → Option Break) (c d : ℕ) (f g : Fid) (copy : Copy)
      → ((d ≡ c) → (g ≡ f) → ⊥)
      → IsPromisedOrTold h k pool d g copy → IsPromisedOrTold h (promised k c f) pool d g copy
  told_beside h k pool c d f g copy apart =
      let differ : same_interest (interest d g) (interest c f) ≡ false =
      elim (same_interest (interest d g) (interest c f)) as
      (λ b. same_interest (interest d g) (interest c f) ≡ b → b ≡ false) [
        | true ↦ λ e. let one = same_interest_is (interest d g) (interest c f) e in absurd (apart (λ i. (one i).client) (λ i. (one i).fid))
        | false ↦ λ _. refl
      ] refl in
      on_its_way h k (promised k c f) pool pool d g copy
      (λ is. promised_promise k c f d g ∙ ap (λ b. b || is_promised k d g) differ ∙ is)
      (λ is. waiting_promise k c f d g ∙ ap (λ b. not b && is_waiting k d g) differ ∙ is) (λ u. u)

  -- ---- an entry

  quiet_on : (h : List ReplicaEntry) (e : ReplicaEntry) (p : ℕ) (f : Fid) → p ≤ length h → IsUnchangedSince h p f
      → node_at (h ++ e ∷ []) f ≡ node_at h f → IsUnchangedSince (h ++ e ∷ []) p f
  quiet_on h e p f le quiet same at from below = elim (cases_lt at (length h)) [
    | inl lt ↦ same_front (λ l. node_at l f) (at + 1) h (e ∷ []) (omega arith) ∙ quiet at from lt ∙ sym (same_front (λ l. node_at l f) at h (e ∷ []) (omega arith))
    | inr ge ↦
        let grown : length (h ++ e ∷ []) ≡ length h + 1 = length-append h (e ∷ []) in
        let last : at ≡ length h = omega arith in
        ap (λ l. node_at l f) (take_all (at + 1) (h ++ e ∷ []) (omega arith)) ∙ same
        ∙ sym (ap (λ l. node_at l f) (take-append-le at h (e ∷ []) (omega arith) ∙ take_all at h (omega arith)))
  ]

  told_entered : (h : List ReplicaEntry) (e : ReplicaEntry) (k : Callbacks) (pool : ℕ → Option Break) (c : ℕ) (f : Fid) (copy : Copy) → copy.position ≤ length h
      → IsPromisedOrTold h k pool c f copy → IsPromisedOrTold (h ++ e ∷ []) (broken_where k (changes h e)) pool c f copy
  told_entered h e k pool c f copy le (inl is) =
      elim (changes h e f) as (λ b. changes h e f ≡ b → IsPromisedOrTold (h ++ e ∷ []) (broken_where k (changes h e))
      pool c f copy) [
        | true ↦ λ t. inr (inl (waiting_broken k (changes h e) c f ∙ or_both (is_waiting k c f) (is_promised k c f) (changes h e f) is.0 t))
        | false ↦ λ t. inl (promised_broken k (changes h e) c f ∙ and_from (is_promised k c f) (not (changes h e f)) is.0 (ap not t), quiet_on h e copy.position f le is.1 (tell h e f t))
      ] refl
  told_entered h e k pool c f copy le (inr (inl is)) =
      inr (inl (waiting_broken k (changes h e) c f ∙ or_left (is_waiting k c f) (is_promised k c f && changes h e f)
      is))
  told_entered h e k pool c f copy le (inr (inr is)) = inr (inr is)

  -- ---- an outbox that is posted

  told_posted : (h : List ReplicaEntry) (k : Callbacks) (pool : ℕ → Option Break) (n s d v c : ℕ) (fids : List Fid) (f : Fid) (copy : Copy) → IsOutbox k d fids → copy.server ≡ s → ((number : ℕ) (letter : Break) → pool number ≡ Some letter → number ≤ n)
      → IsPromisedOrTold h k pool c f copy
      → IsPromisedOrTold h (collected k d) (put pool (n + 1)
      (Some (record { server = s; client = d; volume = v; fids = fids; delivered = false }))) c f copy
  told_posted h k pool n s d v c fids f copy outbox from numbered (inl is) = inl is
  told_posted h k pool n s d v c fids f copy outbox from numbered (inr (inl is)) =
      elim (c == d) as (λ b. (c == d) ≡ b → IsPromisedOrTold h (collected k d)
      (put pool (n + 1) (Some (record { server = s; client = d; volume = v; fids = fids; delivered = false }))) c f
      copy) [
        | true ↦ λ e. inr (inr (record {
          number = n + 1;
          letter = record { server = s; client = d; volume = v; fids = fids; delivered = false };
          posted =
              put_here pool (n + 1)
              (Some (record { server = s; client = d; volume = v; fids = fids; delivered = false }));
          from_server = sym from;
          to_client = sym (eqb-true c d e);
          named = outbox.exact f ∙ ap (λ x. is_waiting k x f) (sym (eqb-true c d e)) ∙ is;
          undelivered = refl;
        }))
        | false ↦ λ e. inr (inl (waiting_collected k d c f ∙ and_from (is_waiting k c f) (not (c == d)) is (ap not e)))
      ] refl
  told_posted h k pool n s d v c fids f copy outbox from numbered (inr (inr is)) =
      inr (inr (still_under_way pool (n + 1) _ copy.server c f is (λ e. let le : is.number ≤ n = numbered is.number is.letter is.posted in omega arith)))

  -- ---- events that add no copy

  -- copies go, and word of the others is on its way
  kept_less : (old : CachingCell) (gone : ℕ → Fid → Copy → Bool) (callbacks : ℕ → ℕ → Callbacks) (pool : ℕ → Option Break) (links : ℕ → ℕ → Bool)
      → IsCoherent old
      → ((c : ℕ) (f : Fid) (copy : Copy) → gone c f copy ≡ false → old.links c copy.server ≡ true → links c
      copy.server ≡ true)
      → ((number : ℕ) (letter : Break) → pool number ≡ Some letter → number ≤ old.posted)
      → ((c : ℕ) (f : Fid) (copy : Copy) → gone c f copy ≡ false → IsPromisedOrTold
      (old.histories copy.server f.volume) (old.callbacks copy.server f.volume) old.breaks c f copy
      → IsPromisedOrTold (old.histories copy.server f.volume) (callbacks copy.server f.volume) pool c f copy)
      → IsCoherent (record old {
        copies = copies_left old.copies gone;
        callbacks = callbacks;
        breaks = pool;
        links = links;
      })
  kept_less old gone callbacks pool links kept linked numbered told = record {
    linked = λ c f copy is. let was = kept_copy old.copies gone c f copy is in linked c f copy was.1 (kept.linked c f copy was.0);
    numbered = numbered;
    behind = λ c f copy is. kept.behind c f copy (kept_copy old.copies gone c f copy is).0;
    copied = λ c f copy is. kept.copied c f copy (kept_copy old.copies gone c f copy is).0;
    told = λ c f copy is. let was = kept_copy old.copies gone c f copy is in told c f copy was.1 (kept.told c f copy was.0);
  }

  -- no copy goes
  kept_all : (old : CachingCell) (callbacks : ℕ → ℕ → Callbacks) (pool : ℕ → Option Break) (posted : ℕ) (links : ℕ → ℕ → Bool)
      → IsCoherent old
      → ((c : ℕ) (f : Fid) (copy : Copy) → old.links c copy.server ≡ true → links c copy.server ≡ true)
      → ((number : ℕ) (letter : Break) → pool number ≡ Some letter → number ≤ posted)
      → ((c : ℕ) (f : Fid) (copy : Copy) → old.copies c f ≡ Some copy → IsPromisedOrTold
      (old.histories copy.server f.volume) (old.callbacks copy.server f.volume) old.breaks c f copy
      → IsPromisedOrTold (old.histories copy.server f.volume) (callbacks copy.server f.volume) pool c f copy)
      → IsCoherent (record old { callbacks = callbacks; breaks = pool; posted = posted; links = links })
  kept_all old callbacks pool posted links kept linked numbered told = record {
    linked = λ c f copy is. linked c f copy (kept.linked c f copy is);
    numbered = numbered;
    behind = kept.behind;
    copied = kept.copied;
    told = λ c f copy is. told c f copy is (kept.told c f copy is);
  }

  -- a server forgets a client, whose copies from it are gone
  told_cut : (old : CachingCell) (client server c : ℕ) (f : Fid) (copy : Copy) (pool : ℕ → Option Break)
      → ((c == client) && (copy.server == server)) ≡ false
      → IsPromisedOrTold (old.histories copy.server f.volume) (old.callbacks copy.server f.volume) pool c f copy
      → IsPromisedOrTold (old.histories copy.server f.volume)
      (cond (copy.server == server) (dropped (old.callbacks copy.server f.volume) client)
      (old.callbacks copy.server f.volume)) pool c f copy
  told_cut old client server c f copy pool away told =
      let k = old.callbacks copy.server f.volume in
      let h = old.histories copy.server f.volume in
      elim (copy.server == server) as (λ b. (copy.server == server) ≡ b → IsPromisedOrTold h
      (cond b (dropped k client) k) pool c f copy) [
        | true ↦ λ e.
            let other : (c == client) ≡ false = apart_by c client copy.server server away (eqb-true copy.server server e) in
            on_its_way h k (dropped k client) pool pool c f copy
            (λ is. promised_dropped k client c f ∙ and_from _ _ is (ap not other))
            (λ is. waiting_dropped k client c f ∙ and_from _ _ is (ap not other)) (λ u. u) told
        | false ↦ λ _. told
      ] refl

  linked_cut : (old : CachingCell) (client server c : ℕ) (copy : Copy)
      → ((c == client) && (copy.server == server)) ≡ false → old.links c copy.server ≡ true
      → put_pair old.links client server false c copy.server ≡ true
  linked_cut old client server c copy away up =
      pair_at (λ b. b ≡ true) old.links client server false c copy.server
      (λ ec es. absurd (both_ways (copy.server == server) (other_test c client (copy.server == server) away ec)
      (eq-eqb copy.server server es))) up

  kept_cut : (old : CachingCell) (client server : ℕ) → IsCoherent old → IsCoherent (link_cut old client server)
  kept_cut old client server kept =
      kept_less old (λ c f copy. (c == client) && (copy.server == server)) (link_cut old client server).callbacks
      old.breaks (link_cut old client server).links kept
      (λ c f copy away up. linked_cut old client server c copy away up) kept.numbered
      (λ c f copy away told. told_cut old client server c f copy old.breaks away told)

  -- ---- each event

  kept_refused : (old : CachingCell) (client : ℕ) (fid : Fid) (server : ℕ) → old.copies client fid ≡ None
      → IsCoherent old → IsCoherent (cell_after changes old (Refused client server fid))
  kept_refused old client fid server none kept =
      kept_all old (cell_after changes old (Refused client server fid)).callbacks old.breaks old.posted old.links kept
      (λ c f copy up. up) kept.numbered
      (λ c f copy is told. pair_at (λ k. IsPromisedOrTold (old.histories copy.server f.volume) k old.breaks c f copy)
      old.callbacks server fid.volume (promised (old.callbacks server fid.volume) client fid) copy.server f.volume
      (λ es ev. told_beside (old.histories copy.server f.volume) (old.callbacks server fid.volume) old.breaks client c
      fid f copy
      (λ ec ef. let no : old.copies c f ≡ None = (λ i. old.copies (ec i) (ef i)) ∙ none in cc)
      (subst (λ k. IsPromisedOrTold (old.histories copy.server f.volume) k old.breaks c f copy)
      (λ i. old.callbacks (es i) (ev i)) told))
      told)

  kept_posted : (old : CachingCell) (server client volume : ℕ) (fids : List Fid)
      → IsOutbox (old.callbacks server volume) client fids → IsCoherent old
      → IsCoherent (cell_after changes old (Posted server client volume fids))
  kept_posted old server client volume fids outbox kept =
      let next = cell_after changes old (Posted server client volume fids) in
      kept_all old next.callbacks next.breaks next.posted old.links kept (λ c f copy up. up)
      (numbered_put old.breaks (old.posted + 1) _ old.posted (old.posted + 1) kept.numbered (omega arith) (omega arith))
      (λ c f copy is told. pair_at (λ k. IsPromisedOrTold (old.histories copy.server f.volume) k next.breaks c f copy)
      old.callbacks server volume (collected (old.callbacks server volume) client) copy.server f.volume
      (λ es ev. told_posted (old.histories copy.server f.volume) (old.callbacks server volume) old.breaks old.posted
      server client volume c fids f copy outbox es kept.numbered
      (subst (λ k. IsPromisedOrTold (old.histories copy.server f.volume) k old.breaks c f copy)
      (λ i. old.callbacks (es i) (ev i)) told))
      (on_its_way (old.histories copy.server f.volume) (old.callbacks copy.server f.volume)
      (old.callbacks copy.server f.volume) old.breaks next.breaks c f copy (λ x. x) (λ x. x)
      (λ u. still_under_way old.breaks (old.posted + 1) _ copy.server c f u (λ e. let le : u.number ≤ old.posted = kept.numbered u.number u.letter u.posted in omega arith)) told))

  kept_refreshed : (old : CachingCell) (server client volume : ℕ) (fids : List Fid)
      → IsOutbox (old.callbacks server volume) client fids → IsCoherent old
      → IsCoherent (cell_after changes old (Refreshed server client volume fids))
  kept_refreshed old server client volume fids outbox kept =
      let next = cell_after changes old (Refreshed server client volume fids) in
      let k = old.callbacks server volume in
      kept_less old (λ c f copy. (c == client) && names (fids) f) next.callbacks old.breaks old.links kept
      (λ c f copy away up. up) kept.numbered
      (λ c f copy away told. pair_at (λ k'. IsPromisedOrTold (old.histories copy.server f.volume) k' old.breaks c f
      copy) old.callbacks server volume (collected k client) copy.server f.volume
      (λ es ev. on_its_way (old.histories copy.server f.volume) k (collected k client) old.breaks old.breaks c f copy
      (λ is. is)
      (λ is. waiting_collected k client c f ∙ and_from (is_waiting k c f) (not (c == client)) is
      (elim (c == client) as (λ b. (c == client) ≡ b → not b ≡ true) [
        | true ↦ λ e. let same = eqb-true c client e in
            absurd (both_ways (names (fids) f) (other_test c client (names (fids) f) away same)
            (outbox.exact f ∙ ap (λ x. is_waiting k x f) (sym same) ∙ is))
        | false ↦ λ _. refl
      ] refl))
      (λ u. u)
      (subst (λ k'. IsPromisedOrTold (old.histories copy.server f.volume) k' old.breaks c f copy)
      (λ i. old.callbacks (es i) (ev i)) told))
      told)

  arrived_kept : (old : CachingCell) (number : ℕ) (o : Option Break) → old.breaks number ≡ o → IsCoherent old
      → IsCoherent (break_delivered old number o)
  arrived_kept old number None is kept = kept
  arrived_kept old number (Some letter) is kept =
      let next = break_delivered old number (Some letter) in
      kept_less old (λ c f copy. (c == letter.client) && names letter.fids f) old.callbacks next.breaks old.links kept
      (λ c f copy away up. up)
      (numbered_put old.breaks number _ old.posted old.posted kept.numbered (omega arith)
      (kept.numbered number letter is))
      (λ c f copy away told. on_its_way (old.histories copy.server f.volume) (old.callbacks copy.server f.volume)
      (old.callbacks copy.server f.volume) old.breaks next.breaks c f copy (λ x. x) (λ x. x)
      (λ u. still_under_way old.breaks number _ copy.server c f u (λ e.
      let one : Some u.letter ≡ Some letter = sym u.posted ∙ ap old.breaks e ∙ is in
      let same : u.letter ≡ letter = cc in
      both_ways (names letter.fids f) (other_test c letter.client (names letter.fids f) away
      (sym u.to_client ∙ ap (λ (l : Break). l.client) same))
      (ap (λ (l : Break). names l.fids f) (sym same) ∙ u.named)))
      told)

  gone_kept : (old : CachingCell) (number : ℕ) (o : Option Break) → old.breaks number ≡ o → IsCoherent old
      → IsCoherent (break_lost old number o)
  gone_kept old number None is kept = kept
  gone_kept old number (Some letter) is kept =
      let next = break_lost old number (Some letter) in
      kept_less old (λ c f copy. (c == letter.client) && (copy.server == letter.server)) next.callbacks next.breaks
      next.links kept (λ c f copy away up. linked_cut old letter.client letter.server c copy away up)
      (numbered_put old.breaks number _ old.posted old.posted kept.numbered (omega arith)
      (kept.numbered number letter is))
      (λ c f copy away told. told_cut old letter.client letter.server c f copy next.breaks away
      (on_its_way (old.histories copy.server f.volume) (old.callbacks copy.server f.volume)
      (old.callbacks copy.server f.volume) old.breaks next.breaks c f copy (λ x. x) (λ x. x)
      (λ u. still_under_way old.breaks number _ copy.server c f u (λ e.
      let one : Some u.letter ≡ Some letter = sym u.posted ∙ ap old.breaks e ∙ is in
      let same : u.letter ≡ letter = cc in
      both_ways (copy.server == letter.server)
      (other_test c letter.client (copy.server == letter.server) away
      (sym u.to_client ∙ ap (λ (l : Break). l.client) same))
      (eq-eqb copy.server letter.server (sym u.from_server ∙ ap (λ (l : Break). l.server) same))))
      told))

  kept_client_gone : (old : CachingCell) (client : ℕ) (state : ClientState) → IsCoherent old
      → IsCoherent (cell_after changes old (ClientGone client state))
  kept_client_gone old client state kept =
      let gone : ℕ → Fid → Copy → Bool = λ c f copy. c == client in
      record {
        linked = λ c f copy is. kept.linked c f copy (kept_copy old.copies gone c f copy is).0;
        numbered = kept.numbered;
        behind = λ c f copy is. kept.behind c f copy (kept_copy old.copies gone c f copy is).0;
        copied = λ c f copy is.
            let was = kept_copy old.copies gone c f copy is in
            subst (λ s. IsCopyOf s f (given old f copy)) (sym (ap (λ b. cond b state (old.clients c)) was.1))
            (kept.copied c f copy was.0);
        told = λ c f copy is.
            let was = kept_copy old.copies gone c f copy is in
            let k = old.callbacks copy.server f.volume in
            on_its_way (old.histories copy.server f.volume) k (dropped k client) old.breaks old.breaks c f copy
            (λ is. promised_dropped k client c f ∙ and_from _ _ is (ap not was.1))
            (λ is. waiting_dropped k client c f ∙ and_from _ _ is (ap not was.1)) (λ u. u) (kept.told c f copy was.0);
      }

  kept_entered : (old : CachingCell) (server volume : ℕ) (e : ReplicaEntry) → IsCoherent old
      → IsCoherent (cell_after changes old (Decided server volume e))
  kept_entered old server volume e kept = record {
    linked = kept.linked;
    numbered = kept.numbered;
    behind =
        λ c f copy is. pair_at (λ h. copy.position ≤ length h) old.histories server volume
        (old.histories server volume ++ e ∷ []) copy.server f.volume
        (λ es ev. longer copy.position (old.histories server volume) (e ∷ [])
        (subst (λ h. copy.position ≤ length h) (λ i. old.histories (es i) (ev i)) (kept.behind c f copy is)))
        (kept.behind c f copy is);
    copied =
        λ c f copy is. pair_at (λ h. IsCopyOf (old.clients c) f (node_at (take copy.position h) f)) old.histories
        server volume (old.histories server volume ++ e ∷ []) copy.server f.volume
        (λ es ev. subst (IsCopyOf (old.clients c) f)
        ((λ i. node_at (take copy.position (old.histories (es i) (ev i))) f)
        ∙ sym (same_front (λ h. node_at h f) copy.position (old.histories server volume) (e ∷ [])
        (subst (λ h. copy.position ≤ length h) (λ i. old.histories (es i) (ev i)) (kept.behind c f copy is))))
        (kept.copied c f copy is)) (kept.copied c f copy is);
    told =
        λ c f copy is. pairs_at (λ h k. IsPromisedOrTold h k old.breaks c f copy) old.histories old.callbacks server
        volume _ _ copy.server f.volume
        (λ es ev. told_entered (old.histories server volume) e (old.callbacks server volume) old.breaks c f copy
        (subst (λ h. copy.position ≤ length h) (λ i. old.histories (es i) (ev i)) (kept.behind c f copy is))
        (subst (λ (p : List ReplicaEntry × Callbacks). IsPromisedOrTold p.0 p.1 old.breaks c f copy)
        (λ i. (old.histories (es i) (ev i), old.callbacks (es i) (ev i))) (kept.told c f copy is)))
        (kept.told c f copy is);
  }

  kept_replica_gone : (old : CachingCell) (server volume : ℕ) (found : List ReplicaEntry) → IsCoherent old
      → IsCoherent (cell_after changes old (ReplicaGone server volume found))
  kept_replica_gone old server volume found kept =
      let gone : ℕ → Fid → Copy → Bool = λ c f copy. (copy.server == server) && (f.volume == volume) in
      let away : (f : Fid) (copy : Copy) → ((copy.server == server) && (f.volume == volume)) ≡ false → copy.server ≡ server → f.volume ≡ volume → ⊥ =
      λ f copy h es ev. both_ways (f.volume == volume) (other_test copy.server server (f.volume == volume) h es)
      (eq-eqb f.volume volume ev) in
      record {
        linked = λ c f copy is. kept.linked c f copy (kept_copy old.copies gone c f copy is).0;
        numbered = kept.numbered;
        behind = λ c f copy is.
            let was = kept_copy old.copies gone c f copy is in
            pair_at (λ h. copy.position ≤ length h) old.histories server volume (old.histories server volume ++ found)
            copy.server f.volume (λ es ev. absurd (away f copy was.1 es ev)) (kept.behind c f copy was.0);
        copied = λ c f copy is.
            let was = kept_copy old.copies gone c f copy is in
            pair_at (λ h. IsCopyOf (old.clients c) f (node_at (take copy.position h) f)) old.histories server volume
            (old.histories server volume ++ found) copy.server f.volume (λ es ev. absurd (away f copy was.1 es ev))
            (kept.copied c f copy was.0);
        told = λ c f copy is.
            let was = kept_copy old.copies gone c f copy is in
            pairs_at (λ h k. IsPromisedOrTold h k old.breaks c f copy) old.histories old.callbacks server volume _ _
            copy.server f.volume (λ es ev. absurd (away f copy was.1 es ev)) (kept.told c f copy was.0);
      }

  -- what is asked of a client, where one changed
  clients_at : (P : ClientState → Type 0) (clients : ℕ → ClientState) (client : ℕ) (x : ClientState) (c : ℕ)
      → (c ≡ client → P x) → ((c == client) ≡ false → P (clients c)) → P (put clients client x c)
  clients_at P clients client x c here there = elim (c == client) as (λ b. (c == client) ≡ b → P (cond b x (clients c))) [ true ↦ λ e. here (eqb-true c client e) | false ↦ there ] refl

  kept_acted : (old : CachingCell) (client : ℕ) (e : ClientEntry) → MayAct old client e → IsCoherent old
      → IsCoherent (cell_after changes old (Acted client e))
  kept_acted old client e can kept =
      let gone : ℕ → Fid → Copy → Bool = λ c f copy. (c == client) && invalidates (old.clients client) e f in
      record {
        linked = λ c f copy is. kept.linked c f copy (kept_copy old.copies gone c f copy is).0;
        numbered = kept.numbered;
        behind = λ c f copy is. kept.behind c f copy (kept_copy old.copies gone c f copy is).0;
        copied = λ c f copy is.
            let was = kept_copy old.copies gone c f copy is in
            clients_at (λ s. IsCopyOf s f (given old f copy)) old.clients client (client_after (old.clients client) e) c
            (λ same. copies_led (old.clients client) e f (given old f copy) can.may
            (can.respects f copy (subst (λ x. old.copies x f ≡ Some copy) same was.0))
            (sparing (old.clients client) e f (other_test c client (invalidates (old.clients client) e f) was.1 same))
            (subst (λ x. IsCopyOf (old.clients x) f (given old f copy)) same (kept.copied c f copy was.0)))
            (λ _. kept.copied c f copy was.0);
        told = λ c f copy is. kept.told c f copy (kept_copy old.copies gone c f copy is).0;
      }

  -- ---- a fetch

  take_whole : (h : List ReplicaEntry) → take (length h) h ≡ h
  take_whole h = take_all (length h) h (omega arith)

  quiet_yet : (h : List ReplicaEntry) (f : Fid) → IsUnchangedSince h (length h) f
  quiet_yet h f at from below = absurd (omega arith)

  kept_fetched : (old : CachingCell) (client server : ℕ) (fid : Fid) (parent : Option Fid) (node : Node)
      → MayFetch old client server fid parent node → IsCoherent old
      → IsCoherent (cell_after changes old (Fetched client server fid parent node))
  kept_fetched old client server fid parent node can kept =
      let next = cell_after changes old (Fetched client server fid parent node) in
      let new = copy_now old fid server in
      let h = old.histories server fid.volume in
      let k = old.callbacks server fid.volume in
      let TellsOf : ℕ → Fid → Copy → Type 0 = λ c f copy. IsPromisedOrTold (old.histories copy.server f.volume) (next.callbacks copy.server f.volume) old.breaks c f copy in
      record {
        linked =
            λ c f copy. copies_at (λ o _. o ≡ Some copy → old.links c copy.server ≡ true) old.copies old.copies client
            fid (Some new) (Some new) c f
            (λ ec ef is. let same : new ≡ copy = cc in subst (λ (p : ℕ × Copy). old.links p.0 p.1.server ≡ true) (λ i. (sym ec i, same i)) can.linked)
            (λ _ is. kept.linked c f copy is);
        numbered = kept.numbered;
        behind =
            λ c f copy. copies_at (λ o _. o ≡ Some copy → copy.position ≤ length (old.histories copy.server f.volume))
            old.copies old.copies client fid (Some new) (Some new) c f
            (λ ec ef is. let same : new ≡ copy = cc in
            subst (λ (p : Copy × Fid). p.0.position ≤ length (old.histories p.0.server p.1.volume))
            (λ i. (same i, sym ef i)) (omega arith))
            (λ _ is. kept.behind c f copy is);
        copied =
            λ c f copy. copies_at (λ o _. o ≡ Some copy → IsCopyOf (next.clients c) f (given old f copy)) old.copies
            old.copies client fid (Some new) (Some new) c f
            (λ ec ef is. let same : new ≡ copy = cc in
            subst (λ (p : ℕ × Fid × Copy). IsCopyOf (next.clients p.0) p.1 (given old p.1 p.2))
            (λ i. (sym ec i, sym ef i, same i))
            (subst (λ s. IsCopyOf s fid (given old fid new))
            (sym (put_here old.clients client (client_after (old.clients client) (entry.Fetched fid parent node))))
            (subst (IsCopyOf (client_after (old.clients client) (entry.Fetched fid parent node)) fid)
            (sym (ap (λ l. node_at l fid) (take_whole h) ∙ can.there))
            (fetches_copies (old.clients client) fid parent node can.may can.predates can.taken))))
            (λ away is. clients_at (λ s. IsCopyOf s f (given old f copy)) old.clients client
            (client_after (old.clients client) (entry.Fetched fid parent node)) c
            (λ ec. copies_led (old.clients client) (entry.Fetched fid parent node) f (given old f copy) can.may tt
            (λ ef. both_ways ((c == client) && same_fid f fid) away
            (and_from (c == client) (same_fid f fid) (eq-eqb c client ec)
            (ap (λ x. same_fid x fid) ef ∙ same_fid_refl fid)))
            (subst (λ x. IsCopyOf (old.clients x) f (given old f copy)) ec (kept.copied c f copy is)))
            (λ _. kept.copied c f copy is));
        told =
            λ c f copy. copies_at (λ o _. o ≡ Some copy → TellsOf c f copy) old.copies old.copies client fid
            (Some new) (Some new) c f
            (λ ec ef is. let same : new ≡ copy = cc in
            subst (λ (p : ℕ × Fid × Copy). TellsOf p.0 p.1 p.2) (λ i. (sym ec i, sym ef i, same i))
            (inl (
              ap (λ x. is_promised x client fid)
                  (pair_here old.callbacks server fid.volume (promised k client fid)) ∙ promised_now k client fid,
              quiet_yet
                  h fid,
            )))
            (λ away is. pair_at (λ x. IsPromisedOrTold (old.histories copy.server f.volume) x old.breaks c f copy)
            old.callbacks server fid.volume (promised k client fid) copy.server f.volume
            (λ es ev. told_beside (old.histories copy.server f.volume) k old.breaks client c fid f copy
            (λ ec ef. both_ways ((c == client) && same_fid f fid) away
            (and_from (c == client) (same_fid f fid) (eq-eqb c client ec)
            (ap (λ x. same_fid x fid) ef ∙ same_fid_refl fid)))
            (subst (λ x. IsPromisedOrTold (old.histories copy.server f.volume) x old.breaks c f copy)
            (λ i. old.callbacks (es i) (ev i)) (kept.told c f copy is)))
            (kept.told c f copy is));
      }

  -- ---- every event, and every run

  pub kept_after : (old : CachingCell) (event : CacheEvent) → MayHappen old event → IsCoherent old
      → IsCoherent (cell_after changes old event)
  kept_after old (Fetched client server fid parent node) can kept =
      kept_fetched old client server fid parent node can kept
  kept_after old (Refused client server fid) can kept = kept_refused old client fid server can.1 kept
  kept_after old (Acted client e) can kept = kept_acted old client e can kept
  kept_after old (Decided server volume e) can kept = kept_entered old server volume e kept
  kept_after old (Posted server client volume fids) can kept = kept_posted old server client volume fids can.1 kept
  kept_after old (Refreshed server client volume fids) can kept =
      kept_refreshed old server client volume fids can.1 kept
  kept_after old OtherPosted can kept = kept_all old old.callbacks old.breaks (old.posted + 1) old.links kept (λ c f copy up. up) (λ number letter is. let le : number ≤ old.posted = kept.numbered number letter is in omega arith) (λ c f copy is told. told)
  kept_after old (Delivered number) can kept = arrived_kept old number (old.breaks number) refl kept
  kept_after old (Lost number) can kept = gone_kept old number (old.breaks number) refl kept
  kept_after old (LinkUp client server) can kept =
      kept_all old old.callbacks old.breaks old.posted (put_pair old.links client server true) kept
      (λ c f copy up. pair_at (λ b. b ≡ true) old.links client server true c copy.server (λ _ _. refl) up)
      kept.numbered (λ c f copy is told. told)
  kept_after old (LinkDown client server) can kept = kept_cut old client server kept
  kept_after old (ClientGone client state) can kept = kept_client_gone old client state kept
  kept_after old (ReplicaGone server volume found) can kept = kept_replica_gone old server volume found kept

  pub kept_empty : (sizes : ℕ → ℕ) → IsCoherent (empty_caching_cell sizes)
  kept_empty sizes = record {
    linked = λ c f copy is. cc;
    numbered = λ number letter is. cc;
    behind = λ c f copy is. cc;
    copied = λ c f copy is. absurd (cc);
    told = λ c f copy is. absurd (cc);
  }

  pub kept_run : (old : CachingCell) (events : List CacheEvent) (new : CachingCell) → IsCoherent old
      → IsCacheRun changes old events new → IsCoherent new
  kept_run old [] new kept is = subst IsCoherent (sym is) kept
  kept_run old (event ∷ events) new kept run =
      kept_run (cell_after changes old event) events new (kept_after old event run.0 kept) run.1

-- ---- the fact

heard : (h : List ReplicaEntry) (k : Callbacks) (pool : ℕ → Option Break) (c : ℕ) (f : Fid) (copy : Copy)
    → IsPromisedOrTold h k pool c f copy → IsChangedSince h copy.position f
    → (is_waiting k c f ≡ true) ⊎ IsBreakUnderWay pool copy.server c f
heard h k pool c f copy (inl is) changed = absurd (changed.3 (is.1 changed.0 changed.1 changed.2))
heard h k pool c f copy (inr is) changed = is

pub fact_of_kept : (cell : CachingCell) → IsCoherent cell → CallbackFact cell
fact_of_kept cell kept client fid copy is clean = record {
  is_linked = kept.linked client fid copy is;
  is_given = clean_copies (cell.clients client) fid (given cell fid copy) (kept.copied client fid copy is) clean;
  is_told =
      heard (cell.histories copy.server fid.volume) (cell.callbacks copy.server fid.volume) cell.breaks client fid
      copy (kept.told client fid copy is);
}

pub callback_fact_holds : CallbackFactHolds
callback_fact_holds changes sizes events cell tell run =
    fact_of_kept cell (kept_run changes tell (empty_caching_cell sizes) events cell (kept_empty changes tell sizes)
    run)
