-- Applied chunks overwrite nobody.
use Rattle.std.proofs.Common.{◌≡◌, ℕ, Bool, true, false, List, [], ◌∷◌, ◌++◌, Option, Some, None, Ok, Err, refl, sym, ap, ◌∙◌}
use Rattle.std.proofs.Common.{subst, inl, inr, ◌⊎◌}
use Rattle.std.specs.FinMap as map
use Rattle.std.proofs.lemmas.Bool.{cases_Bool}
use Rattle.coda_fid.specs.Fid.{root_of}
use Rattle.coda_fid.specs.Op.{carried}
use Rattle.coda_fid.specs.declared.fid.Fid.{Fid}
use Rattle.coda_fid.specs.declared.fid.Sid.{Sid}
use Rattle.coda_fid.specs.declared.op.Over.{Over}
use Rattle.coda_fid.specs.declared.op.Record.{Record}
use Rattle.coda_tree.specs.Volume.{Nodes, IsVolume}
use Rattle.coda_tree.specs.declared.node.Node.{Node}
use Rattle.coda_certify.specs.declared.reason.Reason.{Reason}
use Rattle.coda_certify.specs.declared.verdict.Verdict.TheVariants.{Applied}
use Rattle.coda_certify.specs.Checks.{certify}
use Rattle.coda_certify.specs.Replay.{applied, unless_refused, replay}
use Rattle.coda_certify.specs.Verdicts.{verdict_of}
use Rattle.coda_certify.proofs.Records.{certified_after, ok_from_applied}
use Rattle.coda_plain.specs.Histories.{In}
use Rattle.coda_plain.specs.Decisions.{Decision, sent_of, decision, verdict_on}
use Rattle.coda_plain.proofs.Volumes.{sent_decides}
use Rattle.coda_versions.specs.Versions.{HasVersion, gives_version, IsGivenBy, VersionsComeFromSomewhere}
use Rattle.coda_versions.specs.Versions.{AppliedChunksOverwriteNobody, AppliedDecisionsOverwriteNobody}
use Rattle.coda_versions.proofs.Stale.{stale_refused}
use Rattle.coda_versions.proofs.Left.{versions_left}

ok_is : (a b : Nodes) → (let ok : Nodes → Rattle.coda_certify.specs.Replay.Replayed = λ x. Ok x in ok a ≡ ok b) → a ≡ b
ok_is a b e = cc

-- behind one record
one_behind : (m : Nodes) (client : ℕ) (rec : Record) (fid : Fid) (version : Sid) → HasVersion (applied m client rec) fid version
    → HasVersion m fid version ⊎ IsGivenBy client (rec ∷ []) fid version
one_behind m client rec fid version has = elim (cases_Bool (gives_version fid rec.op)) [
  | inl gives ↦
      let n = versions_left.versioned m client rec fid has.node gives has.there in
      inr (record { by = rec; there = inl refl; gives = gives; names = record { client_is = ap (λ (s : Sid). s.client) (sym has.is) ∙ n.client_is; number_is = ap (λ (s : Sid). s.number) (sym has.is) ∙ n.number_is } })
  | inr none ↦
      let o = versions_left.other m client rec fid has.node none has.there in
      inl (record { node = o.old; there = o.there; is = sym o.same.version ∙ has.is })
]

first : (x rec : Record) (front : List Record) → In x (rec ∷ []) → In x (rec ∷ front)
first x rec front (inl same) = inl same
first x rec front (inr none) = absurd none

pub versions_come : VersionsComeFromSomewhere
versions_come m before client [] fid version ran has = inl (subst (λ n. HasVersion n fid version) (sym (ok_is m before ran)) has)
versions_come m before client (rec ∷ front) fid version ran has = go (certify m rec.op) ran (versions_come (applied m client rec) before client front fid version)
  where
    go : (o : Option Reason) → unless_refused o rec.number (replay (applied m client rec) client front) ≡ Ok before
        → (replay (applied m client rec) client front ≡ Ok before → HasVersion before fid version
        → HasVersion (applied m client rec) fid version ⊎ IsGivenBy client front fid version)
        → HasVersion m fid version ⊎ IsGivenBy client (rec ∷ front) fid version
    go (Some why) ran rest = cc
    go None ran rest = elim (rest ran has) [
      | inl here ↦ elim (one_behind m client rec fid version here) [
        | inl old ↦ inl old
        | inr by ↦ inr (record { by = by.by; there = first by.by rec front by.there; gives = by.gives; names = by.names })
      ]
      | inr by ↦ inr (record { by = by.by; there = inr by.there; gives = by.gives; names = by.names })
    ]

pub chunks_overwrite_nobody : AppliedChunksOverwriteNobody
chunks_overwrite_nobody m left client front rec back over ran carries =
    let c = certified_after m left client front rec back ran in
    versions_come m c.before client front over.fid over.pre c.applies (stale_refused c.before rec.op over carries c.certified)

pub decisions_overwrite_nobody : AppliedDecisionsOverwriteNobody
decisions_overwrite_nobody volume d front rec back over was applied_ sent carries =
    let same = sent_decides (root_of volume) d.before d.client d.span was in
    let ran = ok_from_applied (replay d.before d.client (sent_of d.span)) (ap verdict_of (sym same) ∙ applied_) in
    chunks_overwrite_nobody d.before ran.0 d.client front rec back over (sym (ap (replay d.before d.client) sent) ∙ ran.1) carries
