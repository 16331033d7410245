-- The layout's numbers at the member limit, as the rules have them. Assumes nothing.
use mathlib.Core.Path.{◌≡◌, refl}
use Rattle.layout.specs.Layout.{limit, record_size, hyperedges_at, size}

pub record-words-are : record_size limit ≡ 35
record-words-are = refl

pub hyperedges-begin : hyperedges_at ≡ 516
hyperedges-begin = refl

pub table-words-are : size limit ≡ 7236
table-words-are = refl
