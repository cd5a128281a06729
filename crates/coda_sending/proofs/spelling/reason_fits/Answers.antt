use Rattle.std.proofs.Common.{sym, ap, ◌∙◌}
use Rattle.coda_sending.specs.Spelling.{reason_fits}
use Rattle.coda_sending.proofs.Spelled.{fid_fit, found_fit, bare_fit, full_fits, changed_fits}
use Rattle.coda_sending.proofs.spelling.reason_fits.Goals as goal

pub returns-in-NoDir : goal.returns-in-NoDir
returns-in-NoDir c = c.fid_fits.ensures.result ∙ sym (ap reason_fits c.in-NoDir.is ∙ (fid_fit c.in-NoDir.fid c.fid_fits.ensures.fits).0)

pub returns-in-Marked : goal.returns-in-Marked
returns-in-Marked c = c.fid_fits-in-Marked.ensures.result ∙ sym (ap reason_fits c.in-Marked.is ∙ (fid_fit c.in-Marked.fid c.fid_fits-in-Marked.ensures.fits).1)

pub returns-in-NoObject : goal.returns-in-NoObject
returns-in-NoObject c = c.fid_fits-in-NoObject.ensures.result ∙ sym (ap reason_fits c.in-NoObject.is ∙ (fid_fit c.in-NoObject.fid c.fid_fits-in-NoObject.ensures.fits).2)

pub returns-in-WrongKind : goal.returns-in-WrongKind
returns-in-WrongKind c = c.fid_fits-in-WrongKind.ensures.result ∙ sym (ap reason_fits c.in-WrongKind.is ∙ (fid_fit c.in-WrongKind.fid c.fid_fits-in-WrongKind.ensures.fits).3)

pub returns-in-NameTaken : goal.returns-in-NameTaken
returns-in-NameTaken c = c.fid_fits-in-NameTaken.ensures.result ∙ sym (ap reason_fits c.in-NameTaken.is ∙ (fid_fit c.in-NameTaken.fid c.fid_fits-in-NameTaken.ensures.fits).4)

pub returns-in-NameOther : goal.returns-in-NameOther
returns-in-NameOther c = c.found_fits.ensures.result ∙ sym (ap reason_fits c.in-NameOther.is ∙ found_fit c.in-NameOther.found c.found_fits.ensures.fits)

pub returns-in-FidUsed : goal.returns-in-FidUsed
returns-in-FidUsed c = c.fid_fits-in-FidUsed.ensures.result ∙ sym (ap reason_fits c.in-FidUsed.is ∙ (fid_fit c.in-FidUsed.fid c.fid_fits-in-FidUsed.ensures.fits).5)

pub returns-in-Changed : goal.returns-in-Changed
returns-in-Changed c = c.sids_fit.ensures ∙ sym (ap reason_fits c.in-Changed.is ∙ (changed_fits c.in-Changed.kept c.in-Changed.found).0)

pub returns-in-AttrChanged : goal.returns-in-AttrChanged
returns-in-AttrChanged c = c.sids_fit-in-AttrChanged.ensures ∙ sym (ap reason_fits c.in-AttrChanged.is ∙ (changed_fits c.in-AttrChanged.kept c.in-AttrChanged.found).1)

pub returns-in-NotEmpty : goal.returns-in-NotEmpty
returns-in-NotEmpty c = sym (ap reason_fits c.in-NotEmpty.is ∙ bare_fit.0)

pub returns-in-Loop : goal.returns-in-Loop
returns-in-Loop c = sym (ap reason_fits c.in-Loop.is ∙ bare_fit.1)

pub returns-in-VolumeFull : goal.returns-in-VolumeFull
returns-in-VolumeFull c = c.count_fits.ensures.result ∙ sym (ap reason_fits c.in-VolumeFull.is ∙ full_fits c.in-VolumeFull.count c.count_fits.ensures.fits)
