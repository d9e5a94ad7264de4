pub mod PlaceGuarantee
