-- A header's counts as the definitions see them.
use Rattle.std.specs.Prelude.{◌≤◌}
use Rattle.cert_text.specs.declared.headers.RowsAndItems.{RowsAndItems}
use Rattle.cert_text.specs.declared.headers.TheConstants.{MAX_COUNT}

-- the counts are within their limit
pub record AreSmall (c : RowsAndItems) : Type 0 where
  pub rows : c.rows ≤ MAX_COUNT
  pub items : c.items ≤ MAX_COUNT
