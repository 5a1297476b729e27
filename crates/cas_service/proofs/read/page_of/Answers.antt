use Rattle.blob_pool.specs.Slots.{text_at}
use Rattle.cas_service.proofs.Pages.{whole_page}
use Rattle.cas_service.proofs.read.page_of.Goals as goal

pub returns-then-page-length : goal.returns-then-page-length
returns-then-page-length c =
    whole_page (text_at c.args.pool.now c.args.kept) c.part-page.result.now 65536 4294967295 c.length-length.result c.part-page.ensures
    c.length-length.ensures.length c.if-page-length.true
