-- What a reason prints as.
use Rattle.std.specs.Prelude.{ℕ, List, ◌∷◌, ◌++◌, Option, Some, None, codes}
use Rattle.std.specs.Fmt.{decimal}
use Rattle.coda_fid.specs.declared.fid.Fid.{Fid}
use Rattle.coda_fid.specs.declared.fid.Sid.{Sid}
use Rattle.coda_fid.specs.Fid.{fid_text, sid_text}
use Rattle.coda_certify.specs.declared.reason.Reason.{Reason}
use Rattle.coda_certify.specs.declared.reason.Reason.TheVariants.{NoDir, Marked, NoObject, WrongKind, NameTaken, NameOther, FidUsed, Changed, AttrChanged, NotEmpty, Loop, VolumeFull}

-- a fid, or `-` for none
abbrev pub found_text : Option Fid → List ℕ
found_text None = codes "-"
found_text (Some fid) = fid_text fid

-- two sids with a blank between
abbrev pub sids_text : Sid → Sid → List ℕ
sids_text kept found = sid_text kept ++ 32 ∷ sid_text found

-- the word of a reason, and what it names
abbrev pub reason_text : Reason → List ℕ
reason_text (NoDir fid) = codes "no-dir " ++ fid_text fid
reason_text (Marked fid) = codes "marked " ++ fid_text fid
reason_text (NoObject fid) = codes "no-object " ++ fid_text fid
reason_text (WrongKind fid) = codes "wrong-kind " ++ fid_text fid
reason_text (NameTaken found) = codes "name-taken " ++ fid_text found
reason_text (NameOther found) = codes "name-other " ++ found_text found
reason_text (FidUsed fid) = codes "fid-used " ++ fid_text fid
reason_text (Changed kept found) = codes "changed " ++ sids_text kept found
reason_text (AttrChanged kept found) = codes "attr-changed " ++ sids_text kept found
reason_text NotEmpty = codes "not-empty"
reason_text Loop = codes "loop"
reason_text (VolumeFull count) = codes "volume-full " ++ decimal count
