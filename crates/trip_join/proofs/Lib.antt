pub mod Laws
pub mod Claims
pub mod CallClaims
pub mod Table
