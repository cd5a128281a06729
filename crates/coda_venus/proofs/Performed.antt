-- What an operation that is accepted relies on, where it is performed.
use Rattle.std.specs.Prelude.{IfOk}
use Rattle.std.proofs.Common.{◌≡◌, ℕ, ◌<◌, ◌⊎◌, inl, inr, arith, Option, Some, None, Result, Ok, Err, refl, sym, ap, ◌∙◌, subst}
use Rattle.std.specs.BTreeMap as tree
use Rattle.std.specs.Ordering.{nat_cmp}
use Rattle.coda_fid.specs.declared.op.Op.{Op}
use Rattle.coda_fid.specs.declared.op.Op.TheVariants.{Create, Mkdir, Symlink, Store, Setattr, Remove, Rmdir, Rename}
use Rattle.coda_fid.specs.declared.op.Record.{Record}
use Rattle.coda_plain.specs.Deeds.{created_by}
use Rattle.coda_venus.specs.Accepting.{Sight, is_mentioned, sight_of, accept}
use Rattle.coda_venus.specs.Ask.{Asked, too_big, IsAskSpelled}
use Rattle.coda_venus.specs.Looking.{then_find, OrMemory}
use Rattle.coda_venus.specs.Keeping.{record_of, unless_full, operation_unless, operation}
use Rattle.coda_venus.specs.declared.refused.Refused.{Refused}
use Rattle.coda_venus.specs.declared.refused.Refused.TheVariants.{Memory}
use Rattle.coda_record.specs.Form.{four, eight}
use Rattle.coda_record.specs.Parts.{u64}
use Rattle.coda_record.specs.Spelling.{HasSpelling}
use Rattle.coda_record.specs.Table as table
use Rattle.coda_spelling.specs.Spelled.{IsSpelled, AreSpelled}
use Rattle.coda_spelling.proofs.SpelledParts.{within, below}
use Rattle.coda_venus.specs.Code.{IsLogAt, IsClient, IsNextOf, MayPerform, creations_in, volume_in, sight}
use Rattle.coda_venus.specs.Operating.{IsThere, MayBegin}
use Rattle.coda_venus.specs.State.{ClientVolume, ClientState}
use Rattle.coda_venus.specs.declared.client.Client.{Client}
use Rattle.coda_venus.specs.declared.volume_log.VolumeLog.{VolumeLog}
use Rattle.coda_venus.proofs.SpelledAsks.{accepted_spelled}
use Rattle.coda_venus.proofs.Accepted.{relies_may_apply, Relies, accepted_relies, relies_few}

-- ---- what a client has of a volume, and sees of it

pub volume_is : (v : ClientVolume) (o : Option VolumeLog) → IsLogAt v o → volume_in o ≡ v
volume_is v None at = sym at
volume_is v (Some code) at = λ i. let w : ClientVolume = record { log = at.log i; creations = at.creations i } in w

pub creations_are : (o : Option VolumeLog) → creations_in o ≡ (volume_in o).creations
creations_are None = refl
creations_are (Some code) = refl

pub sight_is : (c : ClientState) (code : Client) (volume : ℕ) → IsClient c code → sight code volume ≡ sight_of c volume
sight_is c code volume is =
    let o = tree.get nat_cmp code.logs volume in
    let v = volume_is (c.volumes volume) o (is.logs volume) in
    λ i. let s : Sight = record {
      number = sym is.number i;
      held = sym is.held i;
      creations = (creations_are o ∙ ap (λ (w : ClientVolume). w.creations) v) i;
      is_dirty = is_mentioned (v i);
    } in s

-- ---- what it relies on

relies_there : (s : Sight) (volume : ℕ) (op : Op) → Relies s volume op → IsThere s.held.nodes op
relies_there s volume (Create dir name fid mode owner) r = tt
relies_there s volume (Mkdir dir name fid mode owner) r = tt
relies_there s volume (Symlink dir name fid target mode owner) r = tt
relies_there s volume (Store fid pre content) r = tt
relies_there s volume (Setattr fid pre attrs) r = tt
relies_there s volume (Remove dir name fid pre) r = r.1
relies_there s volume (Rmdir dir name fid pre) r = r.1
relies_there s volume (Rename from_dir from to_dir to fid None) r = (r.there, tt)
relies_there s volume (Rename from_dir from to_dir to fid (Some over)) r = (r.there, r.replaced.0)

pub relies_begin : (s : Sight) (volume : ℕ) (op : Op) → Relies s volume op → MayBegin s.held.nodes op
relies_begin s volume op r = record { apply = relies_may_apply s volume op r; there = relies_there s volume op r }

pub may_begin : (code : Client) (volume : ℕ) (ask : Asked) (op : Op) → accept (sight code volume) volume ask ≡ Ok op → MayBegin code.cache.nodes op
may_begin code volume ask op h = relies_begin (sight code volume) volume op (accepted_relies (sight code volume) volume ask op h)

pub may_perform : (code : Client) (volume time : ℕ) (ask : Asked) (op : Op) (rec : Record) → accept (sight code volume) volume ask ≡ Ok op → IsNextOf (volume_in (tree.get nat_cmp code.logs volume)).log time op rec
    → MayPerform (volume_in (tree.get nat_cmp code.logs volume)) rec
may_perform code volume time ask op rec h is =
    let o = tree.get nat_cmp code.logs volume in
    let few = relies_few (sight code volume) volume op (accepted_relies (sight code volume) volume ask op h) in
    record {
      next = is.next;
      few = is.few;
      room = is.room;
      creations = subst (λ (p : Op). ((volume_in o).creations < 4294967295) ⊎ (created_by p ≡ 0)) (sym is.what) (subst (λ n. (n < 4294967295) ⊎ (created_by op ≡ 0)) (creations_are o) few);
    }

-- ---- answers

-- what is accepted without want of memory
pub surely_ok : {A : Type 0} (x : A) (r : Result A Refused) → OrMemory (Ok x) r → r ≡ Ok x
surely_ok x r (inl memory) = absurd (ok_not x memory)
  where
    ok_not : {A : Type 0} (x : A) → (let ok : A → Result A Refused = λ z. Ok z in ok x ≡ Err Memory) → ⊥
    ok_not x h = cc
surely_ok x r (inr is) = sym is

pub ok_map : {A E : Type 0} (r : Result A E) (P Q : A → Type 0) → IfOk r P → ((x : A) → P x → Q x) → IfOk r Q
ok_map (Ok x) P Q is to = to x is
ok_map (Err e) P Q is to = tt

err_is : {A : Type 0} (x y : Refused) → (let err : Refused → Result A Refused = λ z. Err z in err x ≡ err y) → x ≡ y
err_is x y h = cc

module _ (c : ClientState) (code : Client) (time volume : ℕ) (ask : Asked) (is : IsClient c code) where
  accept_is : accept (sight code volume) volume ask ≡ accept (sight_of c volume) volume ask
  accept_is = ap (λ s. accept s volume ask) (sight_is c code volume is)

  -- an operation that is accepted becomes a record, or it is refused
  pub operation_ok : (op : Op) (result : Result Record Refused) → too_big ask ≡ None → accept (sight code volume) volume ask ≡ Ok op → result ≡ unless_full (c.volumes volume) (record_of (c.volumes volume) time op)
      → OrMemory result (operation c time volume ask)
  operation_ok op result small accepted next = inr (next ∙ sym (
      ap (λ o. operation_unless o c time volume ask) small ∙ ap (λ r. then_find r (λ o. unless_full (c.volumes volume) (record_of (c.volumes volume) time o))) (sym accept_is ∙ accepted)))

  -- acceptance refuses
  pub operation_err : (why : Refused) → too_big ask ≡ None → OrMemory (Err why) (accept (sight code volume) volume ask) → OrMemory (let r : Result Record Refused = Err why in r) (operation c time volume ask)
  operation_err why small (inl memory) = inl (ap (λ (e : Refused). let r : Result Record Refused = Err e in r) (err_is {A = Op} why Memory memory))
  operation_err why small (inr refused) = inr (sym (
      ap (λ o. operation_unless o c time volume ask) small ∙ ap (λ r. then_find r (λ o. unless_full (c.volumes volume) (record_of (c.volumes volume) time o))) (sym accept_is ∙ sym refused)))

-- ---- spellings

pub next_spelled : (code : Client) (volume time : ℕ) (ask : Asked) (op : Op) (rec : Record) → volume < 4294967296 → code.number < 256 → time < 18446744073709551616 → AreSpelled code.cache.nodes → IsAskSpelled ask → too_big ask ≡ None
    → accept (sight code volume) volume ask ≡ Ok op → IsNextOf (volume_in (tree.get nat_cmp code.logs volume)).log time op rec → IsSpelled rec
next_spelled code volume time ask op rec low number at nodes asked small h is =
    let few = is.few in
    let next = is.next in
    record {
      number = within 1 4294967295 eight rec.number (omega (arith, next)) (omega (arith, next, few)) (omega (arith, next, few));
      time = subst (HasSpelling u64) (sym is.when) (below eight time at);
      op = subst (HasSpelling (table.op four)) (sym is.what) (accepted_spelled (sight code volume) volume low (omega (arith, number)) nodes ask op asked small h);
    }
