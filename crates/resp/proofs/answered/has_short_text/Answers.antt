use Rattle.std.proofs.Common.{◌≤◌, length, subst}
use Rattle.resp.specs.Content.{content}
use Rattle.resp.specs.LongText.{IsShort}
use Rattle.resp.proofs.Contents.{content-Bulk}
use Rattle.resp.proofs.Sizes.{short_bulk}
use Rattle.resp.specs.declared.answered.TheConstants.{SHORT_BULK}
use Rattle.resp.proofs.answered.has_short_text.Goals as goal

pub returns-in-Bulk : goal.returns-in-Bulk
returns-in-Bulk c =
    let short : length c.in-Bulk._bytes.items ≤ SHORT_BULK =
    subst IsShort (content-Bulk c.in-Bulk._bytes) (subst (λ r. IsShort (content r)) c.in-Bulk.is c.requires) in
    rw (c.in-Bulk.is, content-Bulk c.in-Bulk._bytes) (short_bulk c.in-Bulk._bytes.items short)
